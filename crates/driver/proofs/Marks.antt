-- Bytes that are read, noted one by one: only the one at the mark counts.
use Rattle.std.proofs.Common.{◌≡◌, ℕ, suc, ◌+◌, ◌-◌, ◌*◌, ◌/◌, ◌%◌, ◌<◌, Bool, true, false, cond, ◌&&◌, eqb, ltb, leb, List, [], ◌∷◌, length, get_or, Some, None, Option, sym, refl, ap, ◌∙◌, arith}
use Rattle.flash.specs.Addresses.{row_at, block_of, page_of}
use Rattle.flash.specs.Records.{mark_read}
use Rattle.flash.specs.declared.address.Row.{Row}
use Rattle.flash.specs.declared.page.Page.{Page}
use Rattle.flash.specs.declared.part.Part.{Part}
use Rattle.flash.specs.declared.record.BlockRecord.{BlockRecord}
use Rattle.bus.specs.Bus.{changed_at}
use Rattle.bus.specs.States.{blocks_in}
use Rattle.calls.specs.Afters.{noted}
use Rattle.driver.specs.Marks.{mark_in, mark_found}
use Rattle.driver.specs.Outcomes.{leaving, keeping, standing_at}
use Rattle.driver.specs.Views.{View}
use Rattle.driver.specs.declared.standing.Standing.TheVariants as standing

module _ (o : Option Part) (w : Row) where
  abbrev found : Option ℕ → List BlockRecord → List BlockRecord
  found None ks = ks
  found (Some b) ks = changed_at (blocks_in o) (Some (block_of w)) (mark_read (page_of w) b) ks

  elsewhere : (c b : ℕ) (ks : List BlockRecord) → eqb c 2048 ≡ false → changed_at (blocks_in o) (cond (eqb c 2048) (Some (block_of w)) None) (mark_read (page_of w) b) ks ≡ ks
  elsewhere c b ks e = ap (λ q. changed_at (blocks_in o) (cond q (Some (block_of w)) None) (mark_read (page_of w) b) ks) e

  past_mark : (c : ℕ) (bs : List ℕ) (ks : List BlockRecord) → 2048 < c → noted o w c bs ks ≡ ks
  past_mark c [] ks h = refl
  past_mark c (b ∷ bs) ks h =
      let e : eqb c 2048 ≡ false = grind arith in
      ap (λ x. noted o w (c + 1) bs x) (elsewhere c b ks e) ∙ past_mark (c + 1) bs ks (omega arith)

  none_in : (c : ℕ) (bs : List ℕ) (ks : List BlockRecord) → (leb c 2048 && ltb (2048 - c) (length bs)) ≡ false → ks ≡ found (mark_in c bs) ks
  none_in c bs ks e = ap (λ q. found (cond q (Some (get_or bs (2048 - c) 0)) None) ks) (sym e)

  one_in : (b : ℕ) (bs : List ℕ) → mark_in 2048 (b ∷ bs) ≡ Some b
  one_in b bs =
      let e : (leb 2048 2048 && ltb (2048 - 2048) (length (b ∷ bs))) ≡ true = grind arith in
      ap (λ q. cond q (Some b) None) e

  later : (c b : ℕ) (bs : List ℕ) → c < 2048 → mark_in (c + 1) bs ≡ mark_in c (b ∷ bs)
  later c b bs h =
      let i : leb (c + 1) 2048 ≡ true = grind arith in
      let j : leb c 2048 ≡ true = grind arith in
      let e : 2048 - c ≡ suc (2048 - (c + 1)) = omega arith in
      let t : ltb (2048 - (c + 1)) (length bs) ≡ ltb (suc (2048 - (c + 1))) (suc (length bs)) = grind arith in
      ap (λ q. cond (q && ltb (2048 - (c + 1)) (length bs)) (Some (get_or bs (2048 - (c + 1)) 0)) None) i
      ∙ ap (λ q. cond q (Some (get_or bs (2048 - (c + 1)) 0)) None) t
      ∙ sym (ap (λ q. cond (q && ltb (2048 - c) (length (b ∷ bs))) (Some (get_or (b ∷ bs) (2048 - c) 0)) None) j ∙ ap (λ x. cond (ltb x (length (b ∷ bs))) (Some (get_or (b ∷ bs) x 0)) None) e)

  noted_cons : (c b : ℕ) (bs : List ℕ) (ks : List BlockRecord) (q l : Bool) → eqb c 2048 ≡ q → ltb c 2048 ≡ l
      → (noted o w (c + 1) bs ks ≡ found (mark_in (c + 1) bs) ks) → noted o w c (b ∷ bs) ks ≡ found (mark_in c (b ∷ bs)) ks
  noted_cons c b bs ks true l q k m =
      let e : c ≡ 2048 = grind arith in
      rw e (past_mark 2049 bs (found (Some b) ks) (omega arith) ∙ ap (λ x. found x ks) (sym (one_in b bs)))
  noted_cons c b bs ks false false q k m =
      ap (λ x. noted o w (c + 1) bs x) (elsewhere c b ks q) ∙ past_mark (c + 1) bs ks (grind arith) ∙ none_in c (b ∷ bs) ks (grind arith)
  noted_cons c b bs ks false true q k m =
      ap (λ x. noted o w (c + 1) bs x) (elsewhere c b ks q) ∙ m ∙ ap (λ x. found x ks) (later c b bs (grind arith))

  noted_is : (c : ℕ) (bs : List ℕ) (ks : List BlockRecord) → noted o w c bs ks ≡ found (mark_in c bs) ks
  noted_is c [] ks = none_in c [] ks (grind arith)
  noted_is c (b ∷ bs) ks = noted_cons c b bs ks (eqb c 2048) (ltb c 2048) refl refl (noted_is (c + 1) bs ks)

-- the row of a page that is in its block
at_page : (o : Option Part) (p : Page) → p.page < 64 → (x : Option ℕ) (ks : List BlockRecord) → mark_found o p x ks ≡ found o (row_at p) x ks
at_page o p h None ks = refl
at_page o p h (Some b) ks =
    let i : p.block ≡ (64 * p.block + p.page) / 64 = omega arith in
    let j : p.page ≡ (64 * p.block + p.page) % 64 = omega arith in
    ap (λ y. changed_at (blocks_in o) (Some y) (mark_read p.page b) ks) i ∙ ap (λ y. changed_at (blocks_in o) (Some (block_of (row_at p))) (mark_read y b) ks) j

pub mark_noted : (o : Option Part) (p : Page) → p.page < 64 → (c : ℕ) (bs : List ℕ) (ks : List BlockRecord) → mark_found o p (mark_in c bs) ks ≡ noted o (row_at p) c bs ks
mark_noted o p h c bs ks = at_page o p h (mark_in c bs) ks ∙ sym (noted_is o (row_at p) c bs ks)

-- the view after a page has come up, with the mark noted
pub mark_kept : (v : View) (p : Page) (x : Option ℕ) {s n t : View} → s ≡ standing_at v standing.Stuck → n ≡ keeping s (mark_found s.part p x s.blocks) → t ≡ standing_at n standing.Ready
    → t ≡ leaving v (mark_found v.part p x v.blocks) standing.Ready
mark_kept v p x e f g = g ∙ ap (λ (y : View). standing_at y standing.Ready) (f ∙ ap (λ (y : View). keeping y (mark_found y.part p x y.blocks)) e)
