-- Nothing is spelled in no bytes.
use Rattle.std.specs.Prelude.{ℕ, suc, ◌+◌, ◌<◌, Bool, true, false, [], ◌∷◌, length, if◌then◌else◌, List}
use Rattle.std.proofs.Common.{arith, length-append}
use Rattle.leb_bytes.specs.Writing.{shortest, is_narrow_unsigned, low_unsigned, high_unsigned, unsigned_text}
use Rattle.wasm_types.specs.declared.module.Func.{Func}
use Rattle.wasm_types.specs.declared.module.Export.{Export}
use Rattle.wasm_writer.specs.Texts.{sized_text}
use Rattle.wasm_writer.specs.ModuleTexts.{export_text}
use Rattle.wasm_writer.specs.FlatTexts.{index_text, flat_content_text, flat_body_text}

at_least : {A : Type 0} (is_narrow : A → Bool) (low : A → ℕ) (high : A → A) (most : ℕ) (n : A) → 0 < length (shortest is_narrow low high (suc most) n)
unfolding shortest
at_least is_narrow low high most n = by_test (is_narrow n)
  where
    by_test : (t : Bool) → 0 < length (if t then (low n ∷ []) else ((128 + low n) ∷ shortest is_narrow low high most (high n)))
    by_test true = omega arith
    by_test false = omega arith

pub unsigned_some : (n : ℕ) → 0 < length (unsigned_text n)
unsigned_some n = at_least is_narrow_unsigned low_unsigned high_unsigned 9 n

pub sized_some : (content : List ℕ) → 0 < length (sized_text content)
sized_some content = let some = unsigned_some (length content) in omega (arith, length-append (unsigned_text (length content)) content)

pub index_some : (f : Func) → 0 < length (index_text f)
index_some f = unsigned_some f.ty

pub body_some : (f : Func) → 0 < length (flat_body_text f)
body_some f = sized_some (flat_content_text f)

pub export_some : (e : Export) → 0 < length (export_text e)
export_some e = let some = sized_some e.name in omega (arith, length-append (sized_text e.name) (e.kind ∷ unsigned_text e.index))
