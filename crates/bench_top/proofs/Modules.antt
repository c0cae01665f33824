-- What a module's file is answered with.
use Rattle.std.proofs.Common.{◌≡◌, ◌<◌, ℕ, List, [], ◌∷◌, length, sym, ap, ◌∙◌}
use Rattle.std.specs.Prelude.{Result, Ok, Err}
use Rattle.std.proofs.lemmas.Bool.{lt-ltb}
use Rattle.wasm_types.specs.Modules.{NestedModule}
use Rattle.module_specs.specs.declared.fault.Fault.{Fault}
use Rattle.module_specs.specs.declared.fault.Fault.TheVariants as fault
use Rattle.module_specs.specs.ModuleSpelling.{most_bytes, magic, version}
use Rattle.module_specs.specs.Reading.{◌>>=◌, refuse_if}
use Rattle.module_specs.specs.ModuleReading.{module_read, differs, rest_at}
use Rattle.module_report.specs.Line.{module_line}
use Rattle.code_specs.specs.Validity.{IsValid}
use Rattle.call_specs.specs.CallWords.{CallWords}
use Rattle.call_specs.specs.Called.{called}
use Rattle.call_specs.specs.CallLine.{call_line}
use Rattle.bench_top.specs.Telling.{valid_lines, read_lines}
use Rattle.bench_top.specs.Calling.{called_lines, checked_lines, call_lines}

-- a file over its limit has that fault
pub over_limit : (b : List ℕ) → most_bytes < length b → module_read b ≡ Err (fault.Size most_bytes)
unfolding module_read
over_limit b over =
    ap (λ t. refuse_if t (fault.Size most_bytes) >>= λ small. (refuse_if (differs b 0 magic) (fault.Magic 0) >>= λ wasm. refuse_if
    (differs b 4 version) (fault.Version 4) >>= λ first. rest_at b 8))
    (lt-ltb most_bytes (length b) over)

-- the line of the valid module that was read is all that is to be written
pub one_line : (line : List ℕ) (read : Result NestedModule Fault)
    → (m : NestedModule) × (line ≡ module_line m) × (read ≡ Ok m) × IsValid m → line ∷ [] ≡ read_lines read
one_line line read is = ap (λ l. l ∷ []) is.1 ∙ sym (ap (valid_lines is.0) is.3) ∙ sym (ap read_lines is.2)

-- and so is the line on a call
pub one_call : (words : CallWords) (line : List ℕ) (read : Result NestedModule Fault)
    → (m : NestedModule) × (index : ℕ) × (read ≡ Ok m) × IsValid m × (called m words.name words.arguments ≡ Ok index)
    × (line ≡ call_line m index words.arguments words.fuel)
    → line ∷ [] ≡ call_lines words read
one_call words line read is =
    ap (λ l. l ∷ []) is.5 ∙ sym (ap (called_lines words is.0) is.4) ∙ sym (ap (checked_lines words is.0) is.3)
    ∙ sym (ap (call_lines words) is.2)
