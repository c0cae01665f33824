-- The same on flat code, as the code of this crate goes: what one token does to the flat code so far and the lists that are open.
use Rattle.std.specs.Prelude.{ℕ, ◌<◌, Bool, true, false, List, [], ◌∷◌, ◌++◌, length, slice_set, Option, Some, None, IfSome, Result, Ok, Err, nat_lt, if◌then◌else◌}
use Rattle.wasm_types.specs.declared.instr.ValType.{ValType}
use Rattle.wasm_types.specs.declared.instr.Instr.{Instr}
use Rattle.wasm_types.specs.declared.instr.Instr.TheVariants as instr
use Rattle.wasm_types.specs.declared.module.Func.{Func}
use Rattle.wasm_types.specs.Nested.{Code, flat_body}
use Rattle.wasm_types.specs.Modules.{NestedFunc, flat_func}
use Rattle.module_specs.specs.declared.fault.Fault.{Fault}
use Rattle.module_specs.specs.declared.fault.Fault.TheVariants.{Nesting, Limit}
use Rattle.module_specs.specs.declared.opcodes.Kind.{Kind}
use Rattle.module_specs.specs.declared.opcodes.Kind.TheVariants as kind
use Rattle.module_specs.specs.declared.token.Token.{Token}
use Rattle.module_specs.specs.declared.token.Token.TheVariants.{Plain, Opens, Else, End}
use Rattle.wasm_code.specs.declared.flat.Pending.{Pending}
use Rattle.wasm_code.specs.declared.flat.Went.{Went}
use Rattle.wasm_code.specs.declared.flat.Went.TheVariants.{On, Done}
use Rattle.module_specs.specs.CodeSpelling.{most_nested}
use Rattle.module_specs.specs.Reading.{Read, ◌>>=◌, mapped, block_type_at}

abbrev pub opener : Kind → Option ValType → Option ℕ → ℕ → Instr
opener kind.Block r q e = instr.Block r e
opener kind.Loop r q e = instr.Loop r e
opener kind.If r q e = instr.If r q e

abbrev pub else_set : List Instr → Option ℕ → ℕ → List Instr
else_set code None e = code
else_set code (Some q) e = slice_set code q (instr.Else e)

-- the places of a list's end are written where it begins
abbrev pub close : List Instr → Pending → ℕ → List Instr
close code p e = slice_set (else_set code p.else_at e) p.at (opener p.kind p.result p.else_at e)

abbrev pub is_first : Option ℕ → Bool
is_first None = true
is_first (Some q) = false

abbrev pub takes_else : Kind → Option ℕ → Bool
takes_else kind.Block q = false
takes_else kind.Loop q = false
takes_else kind.If q = is_first q

-- the flat code, the lists that are open, the innermost first, and where reading goes on
pub record Flat : Type 0 where
  pub code : List Instr
  pub pending : List Pending
  pub went : Went

abbrev pub flat_open : List ℕ → ℕ → List Instr → List Pending → Kind → ℕ → Result Flat Fault
flat_open b at code ps k next =
    if nat_lt (length ps) most_nested
    then (block_type_at b next >>= λ r. Ok (record {
      code = code ++ opener k r.0 None 0 ∷ [];
      pending = record { kind = k; result = r.0; at = length code; else_at = None } ∷ ps;
      went = On r.1;
    }))
    else Err (Limit at)

abbrev pub flat_else : ℕ → List Instr → List Pending → ℕ → Result Flat Fault
flat_else at code [] next = Err (Nesting at)
flat_else at code (p ∷ ps) next =
    if takes_else p.kind p.else_at
    then Ok (record {
      code = code ++ instr.Else 0 ∷ [];
      pending = record { kind = p.kind; result = p.result; at = p.at; else_at = Some (length code) } ∷ ps;
      went = On next;
    })
    else Err (Nesting at)

abbrev pub flat_end : List Instr → List Pending → ℕ → Flat
flat_end code [] next = record { code = code ++ instr.End ∷ []; pending = []; went = Done next }
flat_end code (p ∷ ps) next = record { code = close code p (length code) ++ instr.End ∷ []; pending = ps; went = On next }

abbrev pub flat_act : List ℕ → ℕ → List Instr → List Pending → Token → ℕ → Result Flat Fault
flat_act b at code ps (Plain i) next = Ok (record { code = code ++ i ∷ []; pending = ps; went = On next })
flat_act b at code ps (Opens k) next = flat_open b at code ps k next
flat_act b at code ps Else next = flat_else at code ps next
flat_act b at code ps End next = Ok (flat_end code ps next)

-- code that was read, in its flat form
abbrev pub flattened : Read Code → Read (List Instr)
flattened = mapped flat_body

-- its places lie in flat code of this length
abbrev pub Inside : ℕ → Pending → Type 0
Inside n p = (p.at < n) × IfSome p.else_at (λ q. q < n)

-- where it goes on
abbrev pub place_of : Went → ℕ
place_of (On p) = p
place_of (Done p) = p

-- a function that was read, with flat code
abbrev pub flat_read : Read NestedFunc → Read Func
flat_read = mapped flat_func
