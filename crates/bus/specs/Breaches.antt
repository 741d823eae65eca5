-- The rules that a cycle breaks, judged before its effect.
use Rattle.std.specs.Prelude.{ℕ, ◌+◌, Bool, true, false, cond, not, List, [], ◌∷◌, ◌++◌, Option, option_to_list, flat_map, codes}
use Rattle.std.specs.Bool.{then_some}
use Rattle.flash.specs.Addresses.{page_of}
use Rattle.flash.specs.Records.{fit, out_of_order, programmed_out}
use Rattle.flash.specs.declared.record.BlockRecord.{BlockRecord}
use Rattle.bus.specs.States.{closed, allowed_in}
use Rattle.bus.specs.declared.act.Act.{Act}
use Rattle.bus.specs.declared.act.Act.TheVariants as act
use Rattle.bus.specs.declared.breach.Breach.{Breach}
use Rattle.bus.specs.declared.breach.Breach.TheVariants as breach
use Rattle.bus.specs.declared.breach.Breaches.{Breaches}
use Rattle.bus.specs.declared.state.BusState.{BusState}

abbrev pub no_breach : Breaches
no_breach = record { while_busy = false; out_of_place = false; unfit_block = false; page_order = false; too_many_programs = false }

-- the broken rules by name, in their order
abbrev pub if_so : Bool → Breach → List Breach
if_so b x = cond b (x ∷ []) []

abbrev pub named : Breaches → List Breach
named x =
    if_so x.while_busy breach.WhileBusy
    ++ (if_so x.out_of_place breach.OutOfPlace
    ++ (if_so x.unfit_block breach.UnfitBlock
    ++ (if_so x.page_order breach.PageOrder
    ++ if_so x.too_many_programs breach.TooManyPrograms)))

-- each rule that is broken, by name in its place
abbrev pub rules : Breaches → List (Option Breach)
rules x =
    then_some x.while_busy breach.WhileBusy
    ∷ then_some x.out_of_place breach.OutOfPlace
    ∷ then_some x.unfit_block breach.UnfitBlock
    ∷ then_some x.page_order breach.PageOrder
    ∷ then_some x.too_many_programs breach.TooManyPrograms
    ∷ []

-- those of a list of rules that are broken
abbrev pub broken_of : List (Option Breach) → List Breach
broken_of xs = flat_map option_to_list xs

-- a rule as it is printed
abbrev pub breach_name : Breach → List ℕ
breach_name breach.WhileBusy = codes "while busy"
breach_name breach.OutOfPlace = codes "out of place"
breach_name breach.UnfitBlock = codes "unfit block"
breach_name breach.PageOrder = codes "page order"
breach_name breach.TooManyPrograms = codes "too many programs"

abbrev pub one : Bool → ℕ
one b = cond b 1 0

abbrev pub how_many : Breaches → ℕ
how_many x = one x.while_busy + one x.out_of_place + one x.unfit_block + one x.page_order + one x.too_many_programs

-- what an act breaks, on a block with this record
abbrev pub judged : BusState → BlockRecord → Act → Breaches
judged u k act.WhileBusy = record { while_busy = true; out_of_place = false; unfit_block = false; page_order = false; too_many_programs = false }
judged u k act.OutOfPlace = record { while_busy = false; out_of_place = true; unfit_block = false; page_order = false; too_many_programs = false }
judged u k act.Reset = no_breach
judged u k (act.Prepare p g) = no_breach
judged u k (act.Status b) = no_breach
judged u k (act.Identify bs) = no_breach
judged u k (act.Read x) = no_breach
judged u k (act.Data w c b) = no_breach
judged u k (act.Load w s c b) = no_breach
judged u k (act.Erase w) = record { while_busy = false; out_of_place = false; unfit_block = not (fit k); page_order = false; too_many_programs = false }
judged u k (act.Program w c f) = record {
  while_busy = false;
  out_of_place = false;
  unfit_block = not (fit k);
  page_order = out_of_order k.pages (not (closed u.chain)) (page_of w);
  too_many_programs = programmed_out (allowed_in u.part) k.pages (page_of w);
}
