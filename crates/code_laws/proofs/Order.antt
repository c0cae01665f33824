-- Typing goes from left to right.
use Rattle.std.proofs.Common.{◌≡◌, ℕ, ◌+◌, refl}
use Rattle.std.specs.Prelude.{Result, Ok, Err, []}
use Rattle.wasm_types.specs.declared.instr.ValType.TheVariants.{I32}
use Rattle.wasm_types.specs.Nested.{Code, Nil, Leaf, InBlock, InLoop, IfOnly, IfElse}
use Rattle.code_specs.specs.Signatures.{types_of}
use Rattle.code_specs.specs.Typing.{Found, OperandTypes, Left, Context, ◌>>=◌, at, height, below, instr_type, with_room, opening, exact, closing, no_operands, with_label, type_of}
use Rattle.code_laws.specs.Codes.{then_code}

along : {A B C E : Type 0} (o : Result A E) (f : A → Result C E) (g : A → Result B E) (k : B → Result C E)
    → ((x : A) → f x ≡ (g x >>= k)) → (o >>= f) ≡ ((o >>= g) >>= k)
along (Ok x) f g k h = h x
along (Err e) f g k h = refl

abbrev then_type : Context → ℕ → Code → Left → Found Left
then_type c held rest left = type_of c held left.closer rest left.types

pub in_order : (c : Context) (held p : ℕ) (front rest : Code) (s : OperandTypes)
    → type_of c held p (then_code front rest) s ≡ (type_of c held p front s >>= then_type c held rest)
in_order c held p Nil rest s = refl
in_order c held p (Leaf i code) rest s =
    along (at p (instr_type c i s >>= with_room held)) _ _ (then_type c held rest) (λ s. in_order c held (p + 1) code rest s)
in_order c held p (InBlock r inner code) rest s =
    along (at p (opening held s)) _ _ _ (λ first.
    along (type_of (with_label (types_of r) c) (held + height s) (p + 1) inner first) _ _ _ (λ left.
    along (at left.closer (closing held (types_of r) left.types s)) _ _ _ (λ s. in_order c held (left.closer + 1) code rest s)))
in_order c held p (InLoop r inner code) rest s =
    along (at p (opening held s)) _ _ _ (λ first.
    along (type_of (with_label [] c) (held + height s) (p + 1) inner first) _ _ _ (λ left.
    along (at left.closer (closing held (types_of r) left.types s)) _ _ _ (λ s. in_order c held (left.closer + 1) code rest s)))
in_order c held p (IfOnly r inner code) rest s =
    along (at p (below I32 s)) _ _ _ (λ s.
    along (at p (opening held s)) _ _ _ (λ first.
    along (type_of (with_label (types_of r) c) (held + height s) (p + 1) inner first) _ _ _ (λ left.
    along (at left.closer (exact (types_of r) left.types)) _ _ _ (λ whole.
    along (at left.closer (closing held (types_of r) no_operands s)) _ _ _ (λ s. in_order c held (left.closer + 1) code rest s)))))
in_order c held p (IfElse r one two code) rest s =
    along (at p (below I32 s)) _ _ _ (λ s.
    along (at p (opening held s)) _ _ _ (λ first.
    along (type_of (with_label (types_of r) c) (held + height s) (p + 1) one first) _ _ _ (λ left.
    along (at left.closer (exact (types_of r) left.types)) _ _ _ (λ whole.
    along (at left.closer (opening held s)) _ _ _ (λ second.
    along (type_of (with_label (types_of r) c) (held + height s) (left.closer + 1) two second) _ _ _ (λ last.
    along (at last.closer (closing held (types_of r) last.types s)) _ _ _ (λ s. in_order c held (last.closer + 1) code rest s)))))))
