-- A read: the page is opened, and then its bytes come.
use Rattle.std.proofs.Common.{◌≡◌, ℕ, true, List, [], ◌∷◌, ◌++◌, map, length, is_some, Some, None, Option, sym, refl, ap, ◌∙◌, inr, arith}
use Rattle.flash.specs.declared.address.Column.{Column}
use Rattle.flash.specs.declared.address.Row.{Row}
use Rattle.flash.specs.declared.cycle.Cycle.{Cycle}
use Rattle.flash.specs.declared.fault.Fault.{Fault}
use Rattle.flash.specs.declared.fault.Fault.TheVariants.{NoRoom}
use Rattle.flash.specs.declared.opcode.Opcode.TheVariants as op
use Rattle.flash.specs.declared.page.Page.{Page}
use Rattle.flash.specs.declared.part.Part.{Part}
use Rattle.port.specs.Meanings.{gave}
use Rattle.port.specs.declared.port.Port.{Ghosts}
use Rattle.commands.specs.Polls.{command, polled, taken, left, first_of}
use Rattle.commands.specs.Sequences.{addressed, open_cycles, out_cycles, read_cycles}
use Rattle.commands.specs.Sent.{Ran, Cut, Short, Went, Stopped}
use Rattle.commands.proofs.Polls.{same_poll, first_all}
use Rattle.commands.proofs.Runs.{ran_as, cut_as, ran_append, cut_here, cut_later, stopped_before}

no_bytes : (o : Option ℕ) (len : ℕ) (rs : List ℕ) → o ≡ None → out_cycles o len rs ≡ []
no_bytes o len rs e = ap (λ x. out_cycles x len rs) e

some_bytes : (o : Option ℕ) (len : ℕ) (rs : List ℕ) → is_some o ≡ true → out_cycles o len rs ≡ command op.Read ∷ map gave (first_of len rs)
some_bytes None len rs e = absurd (grind arith)
some_bytes (Some s) len rs e = refl

-- the cycles of a read whose poll ended with the replies rs, and whose bytes were bs
module _ (o : Option Part) (n : ℕ) (w : Row) (c : Column) (len : ℕ) (rs bs : List ℕ) (ends : is_some (polled n rs) ≡ true) where
  opened_and_read : read_cycles o n w c len (taken n rs ++ bs) ≡ open_cycles op.ReadConfirm o n w c rs ++ (command op.Read ∷ map gave (first_of len bs))
  opened_and_read =
      let same = same_poll n rs bs ends in
      ap (λ ss. open_with ss ++ out_cycles (polled n (taken n rs ++ bs)) len (left n (taken n rs ++ bs))) same.takes
      ∙ (ap (λ x. open_with (taken n rs) ++ out_cycles x len (left n (taken n rs ++ bs))) same.ends
      ∙ (ap (λ x. open_with (taken n rs) ++ out_cycles (polled n rs) len x) same.leaves
      ∙ ap (λ x. open_with (taken n rs) ++ x) (some_bytes (polled n rs) len bs ends)))
    where
      open_with : List ℕ → List Cycle
      open_with ss = command op.Read ∷ (addressed o w c ++ (command op.ReadConfirm ∷ command op.ReadStatus ∷ map gave ss))

module _ {X : Type 0} {p : Ghosts X} (o : Option Part) (n : ℕ) (w : Row) (c : Column) (len : ℕ) where
  pub read_stopped : {at : Option Page} {f : Fault} {a b : X} → Stopped p n at (open_cycles op.ReadConfirm o n w c) f a b → Stopped p n at (read_cycles o n w c len) f a b
  read_stopped s = stopped_before (λ rs. out_cycles (polled n rs) len (left n rs)) (λ rs e. no_bytes (polled n rs) len (left n rs) e) s

  module _ {G : List ℕ → Type 0} {a b : X} (v : Went p n (open_cycles op.ReadConfirm o n w c) G a b) where
    pub read_ended : {d e : X} (bs : List ℕ) → length bs ≡ len → Ran p (command op.Read ∷ []) b d → Ran p (map gave bs) d e
        → Went p n (read_cycles o n w c len) (λ rs. bs ≡ first_of len (left n rs)) a e
    read_ended bs h r s =
        let same = same_poll n v.replies bs v.ready in
        record {
          replies = taken n v.replies ++ bs;
          ready = ap is_some same.ends ∙ v.ready;
          gives = sym (ap (first_of len) same.leaves ∙ first_all len bs h);
          ran = ran_as (sym (opened_and_read o n w c len v.replies bs v.ready))
              (ran_append v.ran (ran_append r (ran_as (ap (map gave) (sym (first_all len bs h))) s)));
        }

    read_broken : {e : X} (bs : List ℕ) → Cut p (command op.Read ∷ map gave (first_of len bs)) b e → Short p (read_cycles o n w c len) a e
    read_broken bs s = record { replies = taken n v.replies ++ bs; cut = cut_as (sym (opened_and_read o n w c len v.replies bs v.ready)) (cut_later v.ran s) }

    pub read_cut : {at : Option Page} {f : Fault} {e : X} → (f ≡ NoRoom None) × Cut p (command op.Read ∷ []) b e → Stopped p n at (read_cycles o n w c len) f a e
    read_cut t = inr (t.0, read_broken [] (cut_here (map gave (first_of len [])) t.1))

    pub read_short : {at : Option Page} {f : Fault} {d e : X} → Ran p (command op.Read ∷ []) b d → (f ≡ NoRoom None) × Short p (λ rs. map gave (first_of len rs)) d e
        → Stopped p n at (read_cycles o n w c len) f a e
    read_short r t = inr (t.0, read_broken t.1.replies (cut_later r t.1.cut))
