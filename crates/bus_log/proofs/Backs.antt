-- The line of a cycle reads back as the cycle, and it is text.
use Rattle.std.proofs.Common.{◌≡◌, ℕ, ◌+◌, ◌*◌, ◌/◌, ◌%◌, ◌<◌, false, eqb, List, [], ◌∷◌, ◌++◌, Some, ap, ◌∙◌, arith}
use Rattle.std.proofs.lemmas.Bool.Decides.{nat_tests}
use Rattle.std.proofs.lemmas.Str.{IsUtf8-from_ascii}
use Rattle.std.proofs.lemmas.Str.Ascii.{IsAscii-nil, IsAscii-cons}
use Rattle.std.specs.Str.{IsUtf8}
use Rattle.flash.specs.declared.cycle.Cycle.{Cycle}
use Rattle.flash.specs.declared.cycle.Kind.{Kind}
use Rattle.flash.specs.declared.cycle.Kind.TheVariants.{Command, Address, DataIn, DataOut}
use Rattle.bus_log.specs.Hexes.{hex_digit}
use Rattle.bus_log.specs.Lines.{hex_of}
use Rattle.bus_log.specs.Logs.{reads, next_line, digit_of, line_for, ReadsBack}
use Rattle.bus_log.specs.declared.line.Scan.TheVariants as scan

hex_back : (k : ℕ) → k < 16 → hex_of (hex_digit k) ≡ Some k
hex_back k h = grind (arith, nat_tests)

no_line_feed : (k : ℕ) → k < 16 → eqb (hex_digit k) 10 ≡ false
no_line_feed k h = grind (arith, nat_tests)

digits_back : (k : Kind) (h l : ℕ) → h < 16 → l < 16 → (n : ℕ) (cs : List Cycle)
    → reads (record { scan = scan.Blank; line = n; cycles = cs; stopped = false }) (digit_of k ∷ hex_digit h ∷ hex_digit l ∷ 10 ∷ [])
    ≡ next_line n (cs ++ record { kind = k; byte = h % 16 * 16 + l % 16 } ∷ [])
digits_back Command h l p q n cs = simp (no_line_feed h p, no_line_feed l q, hex_back h p, hex_back l q)
digits_back Address h l p q n cs = simp (no_line_feed h p, no_line_feed l q, hex_back h p, hex_back l q)
digits_back DataIn h l p q n cs = simp (no_line_feed h p, no_line_feed l q, hex_back h p, hex_back l q)
digits_back DataOut h l p q n cs = simp (no_line_feed h p, no_line_feed l q, hex_back h p, hex_back l q)

pub reads_back : (c : Cycle) → c.byte < 256 → ReadsBack c (line_for c)
reads_back c h n cs =
    digits_back c.kind (c.byte / 16) (c.byte % 16) (omega arith) (omega arith) n cs
    ∙ ap (λ b. next_line n (cs ++ record { kind = c.kind; byte = b } ∷ [])) (omega arith)

kind_low : (k : Kind) → digit_of k < 128
kind_low Command = omega arith
kind_low Address = omega arith
kind_low DataIn = omega arith
kind_low DataOut = omega arith

hex_low : (n : ℕ) → n < 16 → hex_digit n < 128
hex_low n h = grind (arith, nat_tests)

-- all of its bytes are below 128
pub line_text : (c : Cycle) → c.byte < 256 → IsUtf8 (line_for c)
line_text c h =
    let high = hex_digit (c.byte / 16) in
    let low = hex_digit (c.byte % 16) in
    IsUtf8-from_ascii (line_for c)
    (IsAscii-cons (digit_of c.kind) (high ∷ low ∷ 10 ∷ []) (kind_low c.kind)
    (IsAscii-cons high (low ∷ 10 ∷ []) (hex_low (c.byte / 16) (omega arith))
    (IsAscii-cons low (10 ∷ []) (hex_low (c.byte % 16) (omega arith))
    (IsAscii-cons 10 [] (omega arith) IsAscii-nil))))
