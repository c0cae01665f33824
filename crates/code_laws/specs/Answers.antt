-- What the laws say of values and answers.
use Rattle.std.specs.Prelude.{◌≡◌, ℕ, ◌<◌, ◌^◌, List, [], ◌∷◌}
use Rattle.wasm_types.specs.declared.instr.ValType.{ValType}
use Rattle.wasm_types.specs.Spellable.{width}
use Rattle.code_specs.specs.Values.{Value}
use Rattle.code_specs.specs.Execution.{Answer, Returned, Trapped, Spent, Stuck}

-- a value of a type: an i32 is below 2^32, an i64 below 2^64
pub record IsValue (t : ValType) (v : Value) : Type 0 where
  pub ty : v.ty ≡ t
  pub fits : v.bits < 2 ^ width t

-- values of these types, one each
abbrev pub AreValues : List ValType → List Value → Type 0
AreValues [] [] = Unit {0}
AreValues [] (v ∷ vs) = ⊥
AreValues (t ∷ ts) [] = ⊥
AreValues (t ∷ ts) (v ∷ vs) = IsValue t v × AreValues ts vs

-- numbers that are arguments of these types
abbrev pub Fit : List ValType → List ℕ → Type 0
Fit [] [] = Unit {0}
Fit [] (n ∷ ns) = ⊥
Fit (t ∷ ts) [] = ⊥
Fit (t ∷ ts) (n ∷ ns) = (n < 2 ^ width t) × Fit ts ns

-- the call returns values of these types, the last one first, or traps, or runs out of fuel; it isn't stuck
abbrev pub AnswersWith : List ValType → Answer Value → Type 0
AnswersWith results (Returned vs s fuel) = AreValues results vs
AnswersWith results (Trapped kind s fuel) = Unit {0}
AnswersWith results (Spent s) = Unit {0}
AnswersWith results Stuck = ⊥
