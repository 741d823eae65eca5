use Rattle.std.proofs.Common.{[], get_or, take, true, refl, sym, ap, ◌∙◌, arith}
use Rattle.std.proofs.Output.{has_written_append, has_written_of_eq}
use Rattle.std.proofs.lemmas.Fmt.{hex_byte}
use Rattle.std.proofs.lemmas.List.{flat_map_more, take_more}
use Rattle.bus_log.specs.Hexes.{spaced_hex, hex_text}
use Rattle.bus_log.proofs.hex.HexDisplay.fmt.Goals as goal

pub loop-byte-preserved : goal.loop-byte-preserved
loop-byte-preserved g c = λ p.
    let bytes = c.args.self.now.0.now in
    let i = c.loop-byte.byte-index in
    let so_far = c.loop-byte.invariant p in
    let w = rw (c.in_radix.ensures, c.laid_out.ensures, hex_byte true (get_or bytes i 0) (omega arith)) at c.in_ok-write.ensures.writes in
    has_written_of_eq _ _ _ _ _
    (flat_map_more spaced_hex [] (take i bytes) (get_or bytes i 0) ∙ ap hex_text (sym (take_more bytes i 0 (omega arith))))
    (has_written_append _ _ _ _ _ _ so_far (w so_far.plain refl))
