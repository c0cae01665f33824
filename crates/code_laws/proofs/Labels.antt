-- The labels of typed branches are there.
use Rattle.std.proofs.Common.{◌≡◌, ℕ, zero, suc, ◌+◌, ◌<◌, List, [], ◌∷◌, length, Some, arith}
use Rattle.std.specs.Prelude.{Ok, slice_get}
use Rattle.wasm_types.specs.declared.instr.ValType.{ValType}
use Rattle.wasm_types.specs.declared.instr.ValType.TheVariants.{I32}
use Rattle.wasm_types.specs.declared.instr.Instr.{Instr}
use Rattle.wasm_types.specs.declared.instr.Instr.TheVariants.{Br, BrIf, BrTable}
use Rattle.wasm_types.specs.Nested.{Code, Nil, Leaf, InBlock, InLoop, IfOnly, IfElse}
use Rattle.code_specs.specs.Signatures.{types_of}
use Rattle.code_specs.specs.Typing.{OperandTypes, Left, Context, ◌>>=◌, at, known, height, below, never_behind, through, condition_before, label_types, no_operands, instr_type, with_room, opening, exact, closing, with_label, type_of}
use Rattle.code_laws.specs.Codes.{AreLabels, BranchesWithin, HasItsLabels}
use Rattle.code_laws.proofs.Tests.{passed, at_passed, known_is}

there_below : {A : Type 0} (xs : List A) (i : ℕ) (x : A) → slice_get xs i ≡ Some x → i < length xs
there_below [] i x is = cc
there_below (y ∷ xs) zero x is = omega arith
there_below (y ∷ xs) (suc i) x is = omega (arith, there_below xs i x is)

label_there : (c : Context) (label : ℕ) (ts : List ValType) → known (slice_get c.labels label) ≡ Ok ts → label < length c.labels
label_there c label ts is = there_below c.labels label ts (known_is (slice_get c.labels label) ts is)

labels_there : (c : Context) (labels : List ℕ) (others : List (List ValType)) → label_types c labels ≡ Ok others → AreLabels (length c.labels) labels
labels_there c [] others is = tt
labels_there c (label ∷ labels) others is =
    let x = passed (known (slice_get c.labels label)) (λ ts. label_types c labels >>= λ others. Ok (ts ∷ others)) others is in
    let y = passed (label_types c labels) (λ others. Ok (x.it ∷ others)) others x.then in
    (label_there c label x.it x.is, labels_there c labels y.it y.is)

instr_labels : (c : Context) (i : Instr) (s e : OperandTypes) → instr_type c i s ≡ Ok e → BranchesWithin (length c.labels) i
unfolding instr_type
instr_labels c (Br label) s e is =
    let x = passed (known (slice_get c.labels label)) (λ ts. never_behind ts s) e is in label_there c label x.it x.is
instr_labels c (BrIf label) s e is =
    let x = passed (known (slice_get c.labels label)) (λ ts. through (condition_before ts) s) e is in label_there c label x.it x.is
instr_labels c (BrTable labels default) s e is =
    let x = passed (label_types c labels) _ e is in
    let y = passed (known (slice_get c.labels default)) _ e x.then in
    (labels_there c labels x.it x.is, label_there c default y.it y.is)
instr_labels c other s e is = tt

pub code_labels : (c : Context) (held p : ℕ) (code : Code) (s : OperandTypes) (left : Left) → type_of c held p code s ≡ Ok left → HasItsLabels (length c.labels) code
code_labels c held p Nil s left is = tt
code_labels c held p (Leaf i rest) s left is =
    let x = passed (at p (instr_type c i s >>= with_room held)) (λ s. type_of c held (p + 1) rest s) left is in
    let y = passed (instr_type c i s) (with_room held) x.it (at_passed p (instr_type c i s >>= with_room held) x.it x.is) in
    (instr_labels c i s y.it y.is, code_labels c held (p + 1) rest x.it left x.then)
code_labels c held p (InBlock t inner rest) s left is =
    let ts = types_of t in
    let x = passed (at p (opening held s)) _ left is in
    let y = passed (type_of (with_label ts c) (held + height s) (p + 1) inner x.it) _ left x.then in
    let z = passed (at y.it.closer (closing held ts y.it.types s)) _ left y.then in
    (code_labels (with_label ts c) (held + height s) (p + 1) inner x.it y.it y.is, code_labels c held (y.it.closer + 1) rest z.it left z.then)
code_labels c held p (InLoop t inner rest) s left is =
    let x = passed (at p (opening held s)) _ left is in
    let y = passed (type_of (with_label [] c) (held + height s) (p + 1) inner x.it) _ left x.then in
    let z = passed (at y.it.closer (closing held (types_of t) y.it.types s)) _ left y.then in
    (code_labels (with_label [] c) (held + height s) (p + 1) inner x.it y.it y.is, code_labels c held (y.it.closer + 1) rest z.it left z.then)
code_labels c held p (IfOnly t inner rest) s0 left is =
    let ts = types_of t in
    let w = passed (at p (below I32 s0)) _ left is in
    let s = w.it in
    let x = passed (at p (opening held s)) _ left w.then in
    let y = passed (type_of (with_label ts c) (held + height s) (p + 1) inner x.it) _ left x.then in
    let v = passed (at y.it.closer (exact ts y.it.types)) _ left y.then in
    let z = passed (at y.it.closer (closing held ts no_operands s)) _ left v.then in
    (code_labels (with_label ts c) (held + height s) (p + 1) inner x.it y.it y.is, code_labels c held (y.it.closer + 1) rest z.it left z.then)
code_labels c held p (IfElse t first second rest) s0 left is =
    let ts = types_of t in
    let w = passed (at p (below I32 s0)) _ left is in
    let s = w.it in
    let x = passed (at p (opening held s)) _ left w.then in
    let y = passed (type_of (with_label ts c) (held + height s) (p + 1) first x.it) _ left x.then in
    let v = passed (at y.it.closer (exact ts y.it.types)) _ left y.then in
    let x2 = passed (at y.it.closer (opening held s)) _ left v.then in
    let y2 = passed (type_of (with_label ts c) (held + height s) (y.it.closer + 1) second x2.it) _ left x2.then in
    let z = passed (at y2.it.closer (closing held ts y2.it.types s)) _ left y2.then in
    (code_labels (with_label ts c) (held + height s) (p + 1) first x.it y.it y.is, code_labels (with_label ts c) (held + height s) (y.it.closer + 1) second x2.it y2.it y2.is, code_labels c held (y2.it.closer + 1) rest z.it left z.then)
