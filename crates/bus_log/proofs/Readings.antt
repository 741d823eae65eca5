-- Readings put together.
use Rattle.std.proofs.Common.{◌≡◌, ℕ, zero, suc, ◌+◌, ◌<◌, List, [], ◌∷◌, ◌++◌, length, get_or, take, drop, Err, sym, refl, ap, ◌∙◌, arith}
use mathlib.Core.List.{foldl-append}
use Rattle.std.proofs.lemmas.List.{take-append-drop, drop_more}
use Rattle.bus_log.specs.Logs.{Reading, read_byte, reads, stopped_at, Went}
use Rattle.bus_log.specs.declared.log_reader.LogError.{LogError}
use Rattle.bus_log.specs.declared.log_reader.LogError.TheVariants.{NotACycle, Memory}

-- a reading that has stopped stays where it is
stays_stopped : (s : Reading) (bs : List ℕ) → reads (stopped_at s) bs ≡ stopped_at s
stays_stopped s [] = refl
stays_stopped s (b ∷ bs) = stays_stopped s bs

module _ (s t u : Reading) (bs : List ℕ) (i : ℕ) (so : reads s (take i bs) ≡ t) (h : i < length bs) where
  -- one byte more stops the reading, whatever follows
  pub reads_stop : reads t (get_or bs i 0 ∷ []) ≡ stopped_at u → reads s bs ≡ stopped_at u
  reads_stop e =
      ap (reads s) (sym (take-append-drop i bs) ∙ ap (λ l. take i bs ++ l) (drop_more bs i 0 h))
      ∙ (foldl-append read_byte s (take i bs) (get_or bs i 0 ∷ drop (i + 1) bs)
      ∙ (ap (λ x. reads x (get_or bs i 0 ∷ drop (i + 1) bs)) so
      ∙ (ap (λ x. reads x (drop (i + 1) bs)) e ∙ stays_stopped u (drop (i + 1) bs))))

  out_of_memory : (n : ℕ) → n < 1 → reads t (take n (get_or bs i 0 ∷ [])) ≡ u → (m : ℕ) × (m < length bs) × (reads s (take m bs) ≡ u)
  out_of_memory zero l e = (i, h, so ∙ e)
  out_of_memory (suc n) l e = absurd (omega arith)

  -- a reading that ends in an error
  pub ends : (e : LogError) → Went (Err e) t (get_or bs i 0 ∷ []) u → Went (Err e) s bs u
  ends (NotACycle n) w = (reads_stop w.0, w.1)
  ends Memory w = out_of_memory w.0 w.1 w.2
