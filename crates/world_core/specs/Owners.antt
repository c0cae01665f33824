-- Who owns the parts of a value that several units share. Public clauses cite this file.
use Rattle.std.specs.Prelude.{◌≡◌, ◌≤◌, ◌+◌, ◌==◌, ℕ, List, [], ◌∷◌, if◌then◌else◌, refl}

-- 1 where the part is one of these, else 0
abbrev pub owns : ℕ → List ℕ → ℕ
owns p [] = 0
owns p (q ∷ own) = if p == q then 1 else owns p own

-- how many of these own the part
abbrev pub owners : ℕ → List (List ℕ) → ℕ
owners p [] = 0
owners p (own ∷ others) = owns p own + owners p others

-- no part has two owners
abbrev pub EachHasOneOwner : List (List ℕ) → Type 0
EachHasOneOwner each = (p : ℕ) → owners p each ≤ 1

-- naming a part twice makes no second owner
one_owner : owners 2 ((1 ∷ 2 ∷ 2 ∷ []) ∷ (3 ∷ []) ∷ []) ≡ 1
one_owner = refl

two_owners : owners 3 ((1 ∷ 3 ∷ []) ∷ (2 ∷ []) ∷ (3 ∷ []) ∷ []) ≡ 2
two_owners = refl

no_owner : owners 4 ((1 ∷ 3 ∷ []) ∷ (2 ∷ []) ∷ []) ≡ 0
no_owner = refl
