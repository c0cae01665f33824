-- Reading code and bodies from left to right.
use Rattle.std.specs.Prelude.{ℕ, zero, suc, ◌-◌, List, [], ◌∷◌, ◌++◌, length, replicate, Option, Ok, Err, nat_lt, if◌then◌else◌}
use Rattle.wasm_types.specs.declared.instr.ValType.{ValType}
use Rattle.wasm_types.specs.declared.instr.ValType.TheVariants.{I32, I64}
use Rattle.wasm_types.specs.declared.instr.Instr.TheVariants as instr
use Rattle.wasm_types.specs.Nested.{Code, Nil, Leaf, InBlock, InLoop, IfOnly, IfElse}
use Rattle.wasm_types.specs.Modules.{NestedFunc}
use Rattle.module_specs.specs.declared.fault.Fault.TheVariants.{Short, Size, Opcode, Float, Nesting, Limit}
use Rattle.module_specs.specs.declared.opcodes.Kind.{Kind}
use Rattle.module_specs.specs.declared.opcodes.Kind.TheVariants as kind
use Rattle.module_specs.specs.declared.opcodes.Group.{Group}
use Rattle.module_specs.specs.declared.opcodes.Group.TheVariants as group
use Rattle.module_specs.specs.declared.token.Token.{Token}
use Rattle.module_specs.specs.declared.token.Token.TheVariants.{Plain, Opens, Else, End}
use Rattle.module_specs.specs.Opcodes.{group_of, simple_instr, indexed_instr}
use Rattle.module_specs.specs.CodeSpelling.{most_nested, most_locals}
use Rattle.module_specs.specs.Reading.{Read, ◌>>=◌, refuse_if, byte_at, u32_at, s32_at, s64_at, zero_at, type_at, block_type_at, vector_at, sized_at}

-- what follows the opcode at a place
abbrev pub immediates_at : List ℕ → ℕ → ℕ → ℕ → Group → Read Token
immediates_at b at op next (group.Opens k) = Ok (Opens k, next)
immediates_at b at op next group.Else = Ok (Else, next)
immediates_at b at op next group.End = Ok (End, next)
immediates_at b at op next (group.Bare what) = Ok (Plain (simple_instr op what), next)
immediates_at b at op next (group.Zero what) = zero_at b next >>= λ end. Ok (Plain (simple_instr op what), end)
immediates_at b at op next (group.Index what) = u32_at b next >>= λ n. Ok (Plain (indexed_instr op what n.0), n.1)
immediates_at b at op next (group.Access bytes) =
    u32_at b next >>= λ align. u32_at b align.1 >>= λ offset. Ok (Plain (instr.Access op align.0 offset.0), offset.1)
immediates_at b at op next (group.Constant I32) = s32_at b next >>= λ z. Ok (Plain (instr.I32Const z.0), z.1)
immediates_at b at op next (group.Constant I64) = s64_at b next >>= λ z. Ok (Plain (instr.I64Const z.0), z.1)
immediates_at b at op next group.Indirect =
    u32_at b next >>= λ type. zero_at b type.1 >>= λ end. Ok (Plain (instr.CallIndirect type.0), end)
immediates_at b at op next group.Table =
    vector_at u32_at b next >>= λ labels. u32_at b labels.1 >>= λ default.
    Ok (Plain (instr.BrTable labels.0 default.0), default.1)
immediates_at b at op next group.Float = Err (Float at)
immediates_at b at op next group.Unknown = Err (Opcode at op)

unfoldable pub token_at : List ℕ → ℕ → Read Token
token_at b at = do
  op ← byte_at b at
  immediates_at b at op.0 op.1 (group_of op.0)

-- what a list of instructions is the list of: the first of a block, loop or if, or the second of an if with this first one
pub data Part : Type 0 where
  First : (kind : Kind) (result : Option ValType) → Part
  Second : (result : Option ValType) (first : Code) → Part

-- the instruction with this list, and what follows it
abbrev pub made : Part → Code → Code → Code
made (First kind.Block r) inner rest = InBlock r inner rest
made (First kind.Loop r) inner rest = InLoop r inner rest
made (First kind.If r) inner rest = IfOnly r inner rest
made (Second r first) inner rest = IfElse r first inner rest

-- A list that isn't closed yet: what it is the list of, and the list around it up to there, which is a list once it gets its rest.
pub record Open : Type 0 where
  pub what : Part
  pub before : Code → Code

-- an else closes the first list of an if, and opens the second
abbrev pub after_else : (List Open → (Code → Code) → Read Code) → ℕ → List Open → (Code → Code) → Read Code
after_else go at [] list = Err (Nesting at)
after_else go at (o ∷ os) list = second o.what
  where
    second : Part → Read Code
    second (First kind.If r) = go (record { what = Second r (list Nil); before = o.before } ∷ os) (λ rest. rest)
    second other = Err (Nesting at)

-- What a token does to the lists that are open, the innermost first, and to the innermost list so far. Go reads on.
abbrev pub act : (ℕ → List Open → (Code → Code) → Read Code) → List ℕ → ℕ → List Open → (Code → Code) → Token → ℕ → Read Code
act go b at os list (Plain i) next = go next os (λ rest. list (Leaf i rest))
act go b at os list (Opens k) next =
    if nat_lt (length os) most_nested
    then (block_type_at b next >>= λ r. go r.1 (record { what = First k r.0; before = list } ∷ os) (λ rest. rest))
    else Err (Limit at)
act go b at os list Else next = after_else (go next) at os list
act go b at [] list End next = Ok (list Nil, next)
act go b at (o ∷ os) list End next = go next os (λ rest. o.before (made o.what (list Nil) rest))

-- The code up to the end that closes it. As many tokens as there are bytes are enough.
unfoldable pub code_from : ℕ → List ℕ → ℕ → List Open → (Code → Code) → Read Code
code_from zero b at os list = Err (Short (length b))
code_from (suc more) b at os list = do
  token ← token_at b at
  act (code_from more b) b at os list token.0 token.1

abbrev pub code_at : List ℕ → ℕ → Read Code
code_at b at = code_from (length b) b at [] (λ rest. rest)

-- Runs of locals, of which so many more may come. Over the limit is a fault at the body's size.
unfoldable pub runs_at : ℕ → List ℕ → ℕ → ℕ → ℕ → Read (List ValType)
runs_at body b room zero at = Ok ([], at)
runs_at body b room (suc n) at = do
  count ← u32_at b at
  fine ← refuse_if (nat_lt room count.0) (Limit body)
  type ← type_at b count.1
  rest ← runs_at body b (room - count.0) n type.1
  Ok (replicate count.0 type.0 ++ rest.0, rest.1)

unfoldable pub locals_at : ℕ → List ℕ → ℕ → Read (List ValType)
locals_at body b at = do
  count ← u32_at b at
  runs_at body b most_locals count.0 count.1

-- the content of a body whose size stands at a place
unfoldable pub content_at : ℕ → ℕ → List ℕ → ℕ → Read NestedFunc
content_at ty body b at = do
  locals ← locals_at body b at
  code ← code_at b locals.1
  Ok (record { ty = ty; locals = locals.0; code = code.0 }, code.1)

-- A body in a region. Where its size leads past the region, it is Short at the region's end.
unfoldable pub body_at : ℕ → List ℕ → ℕ → Read NestedFunc
body_at ty b at = sized_at (λ end. Short (length b)) (Size at) (content_at ty at) b at
