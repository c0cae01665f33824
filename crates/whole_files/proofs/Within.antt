-- Bytes that are given where there are no more of them than a limit.
use Rattle.std.proofs.Common.{◌≡◌, ◌≤◌, ◌<◌, ℕ, Bool, true, false, refl, sym, ap, ◌∙◌, subst, arith, take, length, take_all, List}
use Rattle.std.specs.Prelude.{Option, Some, Result, Ok, Err, Vec, IfOk, IfSome, ◌+◌, nat_lt, if◌then◌else◌}
use Rattle.std.proofs.lemmas.List.{length-take-le}
use Rattle.std.specs.declared.alloc.Global.{Global}
use Rattle.bench_outside.specs.Shelf.{Contents}
use Rattle.whole_files.specs.declared.fetching.FetchError.{FetchError}
use Rattle.whole_files.specs.declared.fetching.FetchError.TheVariants.{Unread, Size}

-- the first bytes of a name, where it is told what is held
pub read_as : (holds : Option Contents) (held : Contents) (name : List ℕ) (most : ℕ) (bytes : List ℕ) → holds ≡ Some held
    → IfSome holds (λ held. bytes ≡ take most (held name)) → bytes ≡ take most (held name)
read_as holds held name most bytes e first = subst (λ (o : Option Contents). IfSome o (λ held. bytes ≡ take most (held name))) e first

-- bytes that were read as the first of a file, one more at most than the limit
module _ (limit : ℕ) (bytes file : List ℕ) (first : bytes ≡ take (limit + 1) file) where
  -- are all, where there are no more than the limit
  pub all : length bytes ≤ limit → bytes ≡ file
  all few = go (nat_lt limit (length file)) refl
    where
      go : (b : Bool) → nat_lt limit (length file) ≡ b → bytes ≡ file
      go true e =
          let more : limit + 1 ≤ length file = grind arith in
          let taken : length (take (limit + 1) file) ≡ limit + 1 = length-take-le (limit + 1) file more in
          let same : length bytes ≡ limit + 1 = ap length first ∙ taken in
          absurd (omega arith)
      go false e =
          let less : length file ≤ limit + 1 = grind arith in
          first ∙ take_all (limit + 1) file less

  pub longer : limit < length bytes → limit < length file
  longer over = go (nat_lt limit (length file)) refl
    where
      go : (b : Bool) → nat_lt limit (length file) ≡ b → limit < length file
      go true e = grind arith
      go false e =
          let less : length file ≤ limit = grind arith in
          let same : bytes ≡ file = first ∙ take_all (limit + 1) file (omega arith) in
          let long : length bytes ≡ length file = ap length same in
          omega arith

module _ (limit : ℕ) (bytes : Vec ℕ Global) (r : Result (Vec ℕ Global) FetchError)
    (is : r ≡ (if nat_lt limit (length bytes.items) then Err Size else Ok bytes)) where
  chosen : (b : Bool) → nat_lt limit (length bytes.items) ≡ b → r ≡ (if b then Err Size else Ok bytes)
  chosen b e = is ∙ ap (λ (t : Bool). if t then Err Size else Ok bytes) e

  -- what is given is all of them
  pub given : (P : Vec ℕ Global → Type 0) → (length bytes.items ≤ limit → P bytes) → IfOk r P
  given P holds = go (nat_lt limit (length bytes.items)) refl
    where
      go : (b : Bool) → nat_lt limit (length bytes.items) ≡ b → IfOk r P
      go true e = subst (λ x. IfOk x P) (sym (chosen true e)) tt
      go false e = let few : length bytes.items ≤ limit = grind arith in subst (λ x. IfOk x P) (sym (chosen false e)) (holds few)

  pub over : r ≡ Err Size → limit < length bytes.items
  over size = go (nat_lt limit (length bytes.items)) refl
    where
      go : (b : Bool) → nat_lt limit (length bytes.items) ≡ b → limit < length bytes.items
      go true e = grind arith
      go false e = let kept : r ≡ Ok bytes = chosen false e in absurd cc

  pub never_unread : r ≡ Err Unread → ⊥
  never_unread unread = go (nat_lt limit (length bytes.items)) refl
    where
      go : (b : Bool) → nat_lt limit (length bytes.items) ≡ b → ⊥
      go true e = let long : r ≡ Err Size = chosen true e in cc
      go false e = let kept : r ≡ Ok bytes = chosen false e in cc
