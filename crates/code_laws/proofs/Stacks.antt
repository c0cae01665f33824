-- Types of operands, and operands of these types.
use Rattle.std.proofs.Common.{◌≡◌, ℕ, suc, ◌<◌, List, [], ◌∷◌, ◌++◌, length, Some, None, refl, sym, ap, ◌∙◌, subst, Bool, true, false, arith}
use Rattle.std.specs.Prelude.{Ok, cond, map, reverse, nat_lt, ◌&&◌, ◌^◌}
use Rattle.std.proofs.lemmas.Bool.{lt-ltb}
use Rattle.std.proofs.lemmas.Nat.{mod_below}
use Rattle.std.proofs.lemmas.List.{append-nil, reverse-append}
use Rattle.wasm_types.specs.declared.instr.ValType.{ValType}
use Rattle.wasm_types.specs.declared.instr.ValType.TheVariants.{I32, I64}
use Rattle.wasm_types.specs.Spellable.{width}
use Rattle.code_specs.specs.declared.rule.Rule.TheVariants.{Operand}
use Rattle.code_specs.specs.Values.{Value, Split, is_same, is_of, value, zero_of, with_top, split}
use Rattle.code_specs.specs.Signatures.{Signature}
use Rattle.code_specs.specs.Typing.{OperandType, OperandTypes, Stack, Popped, needs, may_be, below, below_all, top_operand, with_operand, with_operands, is_empty, exact, height, through}
use Rattle.code_laws.specs.Answers.{IsValue, AreValues}
use Rattle.code_laws.proofs.Tests.{passed, needed, ok_is, same_is, same_self}

-- ---- values

pub is_of-value : (t : ValType) (v : Value) → IsValue t v → is_of t v ≡ true
is_of-value t v h =
    ap (λ b. b && nat_lt v.bits (2 ^ width t)) (ap (is_same t) h.ty ∙ same_self t) ∙ lt-ltb v.bits (2 ^ width t) h.fits

pow_positive : (t : ValType) → 0 < 2 ^ width t
pow_positive I32 = omega arith
pow_positive I64 = omega arith

pub value_is : (t : ValType) (n : ℕ) → IsValue t (value t n)
value_is t n = record { ty = refl; fits = mod_below n (2 ^ width t) (pow_positive t) }

pub zero_is : (t : ValType) → IsValue t (zero_of t)
zero_is t = record { ty = refl; fits = pow_positive t }

pub zeros_are : (ts : List ValType) → AreValues ts (map zero_of ts)
zeros_are [] = tt
zeros_are (t ∷ ts) = (zero_is t, zeros_are ts)

pub are_length : (ts : List ValType) (vs : List Value) → AreValues ts vs → length vs ≡ length ts
are_length [] [] h = refl
are_length [] (v ∷ vs) h = absurd h
are_length (t ∷ ts) [] h = absurd h
are_length (t ∷ ts) (v ∷ vs) h = ap suc (are_length ts vs h.1)

pub are_append : (ts us : List ValType) (vs ws : List Value) → AreValues ts vs → AreValues us ws → AreValues (ts ++ us) (vs ++ ws)
are_append [] us [] ws g h = h
are_append [] us (v ∷ vs) ws g h = absurd g
are_append (t ∷ ts) us [] ws g h = absurd g
are_append (t ∷ ts) us (v ∷ vs) ws g h = (g.0, are_append ts us vs ws g.1 h)

pub are_reverse : (ts : List ValType) (vs : List Value) → AreValues ts vs → AreValues (reverse ts) (reverse vs)
are_reverse [] [] h = tt
are_reverse [] (v ∷ vs) h = absurd h
are_reverse (t ∷ ts) [] h = absurd h
are_reverse (t ∷ ts) (v ∷ vs) h =
    subst (λ l. AreValues (reverse (t ∷ ts)) l) (sym (reverse-append (v ∷ []) vs))
    (subst (λ l. AreValues l (reverse vs ++ v ∷ [])) (sym (reverse-append (t ∷ []) ts))
    (are_append (reverse ts) (t ∷ []) (reverse vs) (v ∷ []) (are_reverse ts vs h.1) (h.0, tt)))

-- ---- operands

-- operands of known types
abbrev pub Suits : List OperandType → List Value → Type 0
Suits [] [] = Unit {0}
Suits [] (v ∷ vs) = ⊥
Suits (t ∷ ts) [] = ⊥
Suits (None ∷ ts) (v ∷ vs) = ⊥
Suits (Some t ∷ ts) (v ∷ vs) = IsValue t v × Suits ts vs

-- code may be come to with these operands
abbrev pub Reached : OperandTypes → List Value → Type 0
Reached (Stack true ts) vs = ⊥
Reached (Stack false ts) vs = Suits ts vs

suits_length : (ts : List OperandType) (vs : List Value) → Suits ts vs → length vs ≡ length ts
suits_length [] [] h = refl
suits_length [] (v ∷ vs) h = absurd h
suits_length (t ∷ ts) [] h = absurd h
suits_length (None ∷ ts) (v ∷ vs) h = absurd h
suits_length (Some t ∷ ts) (v ∷ vs) h = ap suc (suits_length ts vs h.1)

pub reached_length : (s : OperandTypes) (vs : List Value) → Reached s vs → length vs ≡ height s
reached_length (Stack true ts) vs h = absurd h
reached_length (Stack false ts) vs h = suits_length ts vs h

-- one operand of a type
pub record One (t : ValType) (s : OperandTypes) (vs : List Value) : Type 0 where
  pub v : Value
  pub rest : List Value
  pub is : vs ≡ v ∷ rest
  pub has : IsValue t v
  pub reached : Reached s rest

one_of : (t : ValType) (u : OperandType) (s : OperandTypes) (polymorphic : Bool) (ts : List OperandType) (vs : List Value)
    → may_be t u ≡ true → Stack polymorphic ts ≡ s → Reached (Stack polymorphic (u ∷ ts)) vs → One t s vs
one_of t u s true ts vs a e h = absurd h
one_of t u s false ts [] a e h = absurd h
one_of t None s false ts (v ∷ vs) a e h = absurd h
one_of t (Some u) s false ts (v ∷ vs) a e h =
    record { v = v; rest = vs; is = refl; has = subst (λ t. IsValue t v) (sym (same_is t u a)) h.0; reached = subst (λ s. Reached s vs) e h.1 }

pub below_is : (t : ValType) (s e : OperandTypes) (vs : List Value) → below t s ≡ Ok e → Reached s vs → One t e vs
below_is t (Stack true []) e vs is h = absurd h
below_is t (Stack false []) e vs is h = cc
below_is t (Stack polymorphic (u ∷ ts)) e vs is h =
    let x = passed (needs (may_be t u) Operand) (λ _. Ok (Stack polymorphic ts)) e is in
    one_of t u e polymorphic ts vs (needed (may_be t u) Operand x.it x.is) (ok_is (Stack polymorphic ts) e x.then) h

-- one operand of some type
pub record Any (p : Popped) (vs : List Value) : Type 0 where
  pub ty : ValType
  pub v : Value
  pub rest : List Value
  pub is : vs ≡ v ∷ rest
  pub known : p.ty ≡ Some ty
  pub has : IsValue ty v
  pub reached : Reached p.rest rest

pub popped_is : (s : OperandTypes) (p : Popped) (vs : List Value) → top_operand s ≡ Ok p → Reached s vs → Any p vs
popped_is (Stack true []) p vs is h = absurd h
popped_is (Stack false []) p vs is h = cc
popped_is (Stack true (u ∷ ts)) p vs is h = absurd h
popped_is (Stack false (u ∷ ts)) p [] is h = absurd h
popped_is (Stack false (None ∷ ts)) p (v ∷ vs) is h = absurd h
popped_is (Stack false (Some t ∷ ts)) p (v ∷ vs) is h =
    let q : Popped = record { ty = Some t; rest = Stack false ts } in
    subst (λ p. Any p (v ∷ vs)) (ok_is q p is)
    (record { ty = t; v = v; rest = vs; is = refl; known = refl; has = h.0; reached = h.1 })

-- several operands, the topmost first
pub record Took (ts : List ValType) (s : OperandTypes) (vs : List Value) : Type 0 where
  pub parts : Split Value
  pub whole : vs ≡ parts.top ++ parts.below
  pub is : split ts vs ≡ Some parts
  pub are : AreValues ts parts.top
  pub reached : Reached s parts.below

pub all_is : (ts : List ValType) (s e : OperandTypes) (vs : List Value) → below_all ts s ≡ Ok e → Reached s vs → Took ts e vs
all_is [] s e vs is h =
    record { parts = record { top = []; below = vs }; whole = refl; is = refl; are = tt; reached = subst (λ s. Reached s vs) (ok_is s e is) h }
all_is (t ∷ ts) s e vs is h =
    let x = passed (below t s) (below_all ts) e is in
    let k = below_is t s x.it vs x.is h in
    let a = all_is ts x.it e k.rest x.then k.reached in
    record {
      parts = record { top = k.v ∷ a.parts.top; below = a.parts.below };
      whole = k.is ∙ ap (λ l. k.v ∷ l) a.whole;
      is = ap (split (t ∷ ts)) k.is ∙ ap (λ b. cond b (with_top k.v (split ts k.rest)) None) (is_of-value t k.v k.has) ∙ ap (with_top k.v) a.is;
      are = (k.has, a.are);
      reached = a.reached;
    }

-- values on top, of the types that are given
one_on_top : (t : ValType) (s : OperandTypes) (v : Value) (vs : List Value) → IsValue t v → Reached s vs → Reached (with_operand (Some t) s) (v ∷ vs)
one_on_top t (Stack true ts) v vs g h = absurd h
one_on_top t (Stack false ts) v vs g h = (g, h)

pub on_top : (ts : List ValType) (s : OperandTypes) (vs below : List Value) → AreValues ts vs → Reached s below → Reached (with_operands ts s) (vs ++ below)
on_top [] s [] below g h = h
on_top [] s (v ∷ vs) below g h = absurd g
on_top (t ∷ ts) s [] below g h = absurd g
on_top (t ∷ ts) s (v ∷ vs) below g h = one_on_top t (with_operands ts s) v (vs ++ below) g.0 (on_top ts s vs below g.1 h)

-- exactly operands of these types are left
nothing_left : (s : OperandTypes) (vs : List Value) → is_empty s ≡ true → Reached s vs → vs ≡ []
nothing_left (Stack true ts) vs is h = absurd h
nothing_left (Stack false []) [] is h = refl
nothing_left (Stack false []) (v ∷ vs) is h = absurd h
nothing_left (Stack false (t ∷ ts)) vs is h = cc

pub exact_is : (ts : List ValType) (s : OperandTypes) (u : Unit {0}) (vs : List Value) → exact ts s ≡ Ok u → Reached s vs → AreValues ts vs
exact_is ts s u vs is h =
    let x = passed (below_all ts s) (λ rest. needs (is_empty rest) Operand) u is in
    let k = all_is ts s x.it vs x.is h in
    let none = nothing_left x.it k.parts.below (needed (is_empty x.it) Operand u x.then) k.reached in
    subst (λ l. AreValues ts l) (sym (k.whole ∙ ap (λ l. k.parts.top ++ l) none ∙ append-nil k.parts.top)) k.are

-- an instruction of a type takes its operands, and gives results of its types
pub record Passes (g : Signature) (e : OperandTypes) (vs : List Value) : Type 0 where
  pub left : OperandTypes
  pub took : Took g.takes left vs
  pub gives : with_operands g.gives left ≡ e

pub through_is : (g : Signature) (s e : OperandTypes) (vs : List Value) → through g s ≡ Ok e → Reached s vs → Passes g e vs
through_is g s e vs is h =
    let x = passed (below_all g.takes s) (λ rest. Ok (with_operands g.gives rest)) e is in
    record { left = x.it; took = all_is g.takes s x.it vs x.is h; gives = ok_is (with_operands g.gives x.it) e x.then }

pub given : (g : Signature) (e : OperandTypes) (vs : List Value) (p : Passes g e vs) (results : List Value) → AreValues g.gives results → Reached e (results ++ p.took.parts.below)
given g e vs p results h =
    subst (λ e. Reached e (results ++ p.took.parts.below)) p.gives (on_top g.gives p.left results p.took.parts.below h p.took.reached)
