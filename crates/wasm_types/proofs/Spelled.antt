-- What can be spelled is a leaf.
use Rattle.std.proofs.lemmas.List.Elements.{All-weaker}
use Rattle.wasm_types.specs.declared.instr.Instr.{Instr}
use Rattle.wasm_types.specs.declared.instr.Instr.TheVariants.{Block, Loop, If, Else, End}
use Rattle.wasm_types.specs.Nested.{Code, Nil, Leaf, InBlock, InLoop, IfOnly, IfElse, IsPlain, HasPlainLeaves}
use Rattle.wasm_types.specs.Modules.{NestedFunc, NestedModule, HasPlainFuncs}
use Rattle.wasm_types.specs.Spellable.{IsSpellable, HasSpellableLeaves, HasSpellableParts}

plain_instr : (i : Instr) → IsSpellable i → IsPlain i
plain_instr (Block r e) s = absurd s
plain_instr (Loop r e) s = absurd s
plain_instr (If r q e) s = absurd s
plain_instr (Else e) s = absurd s
plain_instr End s = absurd s
plain_instr i s = tt

pub plain_code : (c : Code) → HasSpellableLeaves c → HasPlainLeaves c
plain_code Nil s = tt
plain_code (Leaf i rest) s = (plain_instr i s.0, plain_code rest s.1)
plain_code (InBlock r inner rest) s = (plain_code inner s.0, plain_code rest s.1)
plain_code (InLoop r inner rest) s = (plain_code inner s.0, plain_code rest s.1)
plain_code (IfOnly r inner rest) s = (plain_code inner s.0, plain_code rest s.1)
plain_code (IfElse r first second rest) s = (plain_code first s.0, plain_code second s.1, plain_code rest s.2)

pub plain_module : (m : NestedModule) → HasSpellableParts m → HasPlainFuncs m
plain_module m s =
    All-weaker (λ (f : NestedFunc). HasSpellableLeaves f.code) (λ (f : NestedFunc). HasPlainLeaves f.code)
    (λ f. plain_code f.code) m.funcs s.funcs
