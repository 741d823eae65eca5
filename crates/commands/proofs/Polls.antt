-- The replies to a poll, taken one by one.
use Rattle.std.proofs.Common.{◌≡◌, ℕ, zero, suc, ◌<◌, Bool, true, false, List, [], ◌∷◌, ◌++◌, length, is_some, Some, None, refl, ap, arith}
use Rattle.std.specs.List.{AllByRecursion}
use Rattle.flash.specs.Statuses.{ready}
use Rattle.commands.specs.Polls.{polled, taken, left, first_of}

abbrev pub Busy : ℕ → Type 0
Busy s = ready s ≡ false

-- busy replies, then a ready one
pub ends_ready : (xs : List ℕ) (n s : ℕ) → AllByRecursion Busy xs → length xs < n → ready s ≡ true
    → (polled n (xs ++ s ∷ []) ≡ Some s) × (taken n (xs ++ s ∷ []) ≡ xs ++ s ∷ [])
ends_ready xs zero s b h e = absurd (omega arith)
ends_ready [] (suc n) s b h e = (simp e, simp e)
ends_ready (x ∷ xs) (suc n) s b h e =
    let m = ends_ready xs n s b.1 (omega arith) e in
    (simp b.0 m.0, simp b.0 (ap (λ ys. x ∷ ys) m.1))

-- n busy replies
pub never_ends : (xs : List ℕ) (n : ℕ) → AllByRecursion Busy xs → length xs ≡ n → (polled n xs ≡ None) × (taken n xs ≡ xs)
never_ends [] zero b h = (refl, refl)
never_ends [] (suc n) b h = absurd (omega arith)
never_ends (x ∷ xs) zero b h = absurd (omega arith)
never_ends (x ∷ xs) (suc n) b h =
    let m = never_ends xs n b.1 (omega arith) in
    (simp b.0 m.0, simp b.0 (ap (λ ys. x ∷ ys) m.1))

-- fewer busy replies: one more status byte is taken
pub goes_on : (xs : List ℕ) (n : ℕ) → AllByRecursion Busy xs → length xs < n → taken n xs ≡ xs ++ 0xFF ∷ []
goes_on xs zero b h = absurd (omega arith)
goes_on [] (suc n) b h = refl
goes_on (x ∷ xs) (suc n) b h = simp b.0 (ap (λ ys. x ∷ ys) (goes_on xs n b.1 (omega arith)))

-- what comes after the status bytes of a poll that ended does not change them, and is left
pub record SamePoll (n : ℕ) (rs ys : List ℕ) : Type 0 where
  pub ends : polled n (taken n rs ++ ys) ≡ polled n rs
  pub takes : taken n (taken n rs ++ ys) ≡ taken n rs
  pub leaves : left n (taken n rs ++ ys) ≡ ys

same_by : (n s : ℕ) (rs ys : List ℕ) (q : Bool) → ready s ≡ q → (is_some (polled n rs) ≡ true → SamePoll n rs ys)
    → is_some (polled (suc n) (s ∷ rs)) ≡ true → SamePoll (suc n) (s ∷ rs) ys
same_by n s rs ys true e m h = record { ends = simp e; takes = simp e; leaves = simp e }
same_by n s rs ys false e m h =
    let k = m (simp e at h) in
    record { ends = simp e k.ends; takes = simp e (ap (λ zs. s ∷ zs) k.takes); leaves = simp e k.leaves }

pub same_poll : (n : ℕ) (rs ys : List ℕ) → is_some (polled n rs) ≡ true → SamePoll n rs ys
same_poll zero rs ys h = let z : ◌≡◌ {A = Bool} true false = cc in absurd (grind arith)
same_poll (suc n) [] ys h = record { ends = refl; takes = refl; leaves = refl }
same_poll (suc n) (s ∷ rs) ys h = same_by n s rs ys (ready s) refl (same_poll n rs ys) h

pub first_all : (n : ℕ) (xs : List ℕ) → length xs ≡ n → first_of n xs ≡ xs
first_all zero [] h = refl
first_all zero (x ∷ xs) h = absurd (omega arith)
first_all (suc n) [] h = absurd (omega arith)
first_all (suc n) (x ∷ xs) h = ap (λ ys. x ∷ ys) (first_all n xs (omega arith))
