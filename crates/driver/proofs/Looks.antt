-- A page that a call reads.
use Rattle.std.proofs.Common.{◌≡◌, ℕ, ◌<◌, ◌≤◌, true, ltb, List, length, None, Option, sym, subst, arith}
use Rattle.flash.specs.Addresses.{row_at}
use Rattle.flash.specs.declared.address.Column.{Column}
use Rattle.flash.specs.declared.fault.Fault.TheVariants as fault
use Rattle.flash.specs.declared.page.Page.{Page}
use Rattle.flash.specs.declared.part.Part.{Part}
use Rattle.commands.specs.Sequences.{read_cycles}
use Rattle.calls.specs.Table.{mark_column}
use Rattle.driver.specs.Refusals.{page_fault, block_fault}
use Rattle.driver.proofs.Admits.{or_none, unless_none}

-- a page that was let through is in its block
pub in_block : (o : Option Part) (n : ℕ) (g : Page) → page_fault o n g ≡ None → g.page < n
in_block o n g e =
    let h : ltb g.page n ≡ true = unless_none _ (fault.NoSuchPage g) (or_none (block_fault o g.block) _ e).1 in
    grind arith

pub look_room : {c : Column} → c ≡ mark_column → (g : Page) → (o : Option Part) (n : ℕ) {m : ℕ} → ((rs : List ℕ) → length (read_cycles o n (row_at g) mark_column 1 rs) ≤ m)
    → (rs : List ℕ) → length (read_cycles o n (row_at g) c 1 rs) ≤ m
look_room at g o n {m} h rs = let P : Column → Type 0 = λ y. length (read_cycles o n (row_at g) y 1 rs) ≤ m in subst P (sym at) (h rs)
