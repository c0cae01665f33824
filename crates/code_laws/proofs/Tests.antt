-- What a test that passes says.
use Rattle.std.proofs.Common.{◌≡◌, ℕ, ◌+◌, ◌≤◌, Option, Some, None, refl, Bool, true, false}
use Rattle.std.specs.Prelude.{Result, Ok, Err, nat_le, ◌&&◌}
use Rattle.std.proofs.lemmas.Bool.{leb-true}
use Rattle.wasm_types.specs.declared.instr.ValType.{ValType}
use Rattle.wasm_types.specs.declared.instr.ValType.TheVariants.{I32, I64}
use Rattle.code_specs.specs.declared.rule.Rule.{Rule}
use Rattle.code_specs.specs.declared.rule.Rule.TheVariants.{Slots}
use Rattle.code_specs.specs.Values.{is_same, most_slots}
use Rattle.code_specs.specs.Typing.{Test, OperandTypes, ◌>>=◌, at, needs, known, height, with_room}

-- something, and what comes of it
pub record Passed {A B E : Type 0} (o : Result A E) (f : A → Result B E) (y : B) : Type 0 where
  pub it : A
  pub is : o ≡ Ok it
  pub then : f it ≡ Ok y

pub passed : {A B E : Type 0} (o : Result A E) (f : A → Result B E) (y : B) → (o >>= f) ≡ Ok y → Passed o f y
passed (Err e) f y h = cc
passed (Ok x) f y h = record { it = x; is = refl; then = h }

pub at_passed : {A : Type 0} (p : ℕ) (o : Test A) (x : A) → at p o ≡ Ok x → o ≡ Ok x
at_passed p (Err r) x h = cc
at_passed p (Ok y) x h = cc

pub needed : (b : Bool) (r : Rule) (u : Unit {0}) → needs b r ≡ Ok u → b ≡ true
needed true r u h = refl
needed false r u h = cc

pub known_is : {A : Type 0} (o : Option A) (x : A) → known o ≡ Ok x → o ≡ Some x
known_is None x h = cc
known_is (Some y) x h = cc

pub some_is : {A : Type 0} (x y : A) → Some x ≡ Some y → x ≡ y
some_is x y h = cc

abbrev pub ok_at : (E : Type 0) {A : Type 0} → A → Result A E
ok_at E x = Ok x

pub ok_is : {E A : Type 0} (x y : A) → ok_at E x ≡ ok_at E y → x ≡ y
ok_is x y h = cc

pub same_is : (t u : ValType) → is_same t u ≡ true → t ≡ u
same_is I32 I32 h = refl
same_is I64 I64 h = refl
same_is I32 I64 h = cc
same_is I64 I32 h = cc

pub same_self : (t : ValType) → is_same t t ≡ true
same_self I32 = refl
same_self I64 = refl

pub both : (a b : Bool) → (a && b) ≡ true → (a ≡ true) × (b ≡ true)
both true b h = (refl, h)
both false b h = cc

-- the frame has room
pub room_is : (held : ℕ) (s e : OperandTypes) → with_room held s ≡ Ok e → (held + height s ≤ most_slots) × (s ≡ e)
room_is held s e h =
    let x = passed (needs (nat_le (held + height s) most_slots) Slots) (λ u. Ok s) e h in
    (leb-true (held + height s) most_slots (needed (nat_le (held + height s) most_slots) Slots x.it x.is), ok_is s e x.then)
