-- A run cut at its spaces, with a line feed after each part, is the run with line feeds for spaces.
use Rattle.std.proofs.Common.{◌≡◌, ℕ, ◌<◌, Bool, true, false, cond, eqb, List, [], ◌∷◌, ◌++◌, map, length, sym, refl, ap, ◌∙◌, arith}
use Rattle.std.specs.List.{flat_map, slice_split, onto_first}
use Rattle.std.proofs.lemmas.List.Splits.{length-slice_split}
use Rattle.flash.specs.declared.cycle.Cycle.{Cycle}
use Rattle.bus_log.specs.Logs.{Reading, reads, read_byte}
use Rattle.test_logs.specs.Runs.{spaced, run_byte, run_on, begun_with, ran}

abbrev pub is_break : ℕ → Bool
is_break b = eqb b 32

abbrev pub ended : List ℕ → List ℕ
ended line = line ++ 10 ∷ []

cut : (q : Bool) (b : ℕ) (lines : List (List ℕ)) → 0 < length lines
    → flat_map ended (cond q ([] ∷ lines) (onto_first b lines)) ≡ cond q 10 b ∷ flat_map ended lines
cut true b lines h = refl
cut false b [] h = absurd (omega arith)
cut false b (line ∷ lines) h = refl

lines_of_run : (bs : List ℕ) → flat_map ended (slice_split is_break bs) ≡ map spaced bs ++ 10 ∷ []
lines_of_run [] = refl
lines_of_run (b ∷ bs) =
    cut (is_break b) b (slice_split is_break bs) (omega (arith, length-slice_split is_break bs))
    ∙ ap (λ l. spaced b ∷ l) (lines_of_run bs)

reads_spaced : (s : Reading) (bs : List ℕ) → reads s (map spaced bs ++ 10 ∷ []) ≡ read_byte (run_on s bs) 10
reads_spaced s [] = refl
reads_spaced s (b ∷ bs) = reads_spaced (run_byte s b) bs

reads_run : (s : Reading) (bs : List ℕ) → reads s (flat_map ended (slice_split is_break bs)) ≡ read_byte (run_on s bs) 10
reads_run s bs = ap (reads s) (lines_of_run bs) ∙ reads_spaced s bs

-- all lines of a run
pub run_read : {t : Reading} (cs : List Cycle) (bs : List ℕ) (lines : List (List ℕ))
    → lines ≡ slice_split is_break bs → reads (begun_with cs) (flat_map ended lines) ≡ t → t.cycles ≡ ran cs bs
run_read cs bs lines e f =
    ap (λ (s : Reading). s.cycles)
    (sym f ∙ (ap (λ l. reads (begun_with cs) (flat_map ended l)) e ∙ reads_run (begun_with cs) bs))
