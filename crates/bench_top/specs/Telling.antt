-- wasm FILE: what the valid module of a file holds, in one line.
use Rattle.std.specs.Prelude.{ℕ, List, [], ◌∷◌, Result, Ok, Err}
use Rattle.wasm_types.specs.Modules.{NestedModule}
use Rattle.module_specs.specs.declared.fault.Fault.{Fault}
use Rattle.module_specs.specs.ModuleReading.{module_read}
use Rattle.code_specs.specs.Validity.{Invalid, Verdict, validity}
use Rattle.wasm_reader.specs.declared.error.ReadError.{ReadError}
use Rattle.wasm_reader.specs.Outcome.{error_of}
use Rattle.wasm_validate.specs.declared.invalid.Invalid.TheVariants as invalid
use Rattle.module_report.specs.declared.report.ReportError.{ReportError}
use Rattle.module_report.specs.declared.report.ReportError.TheVariants as report
use Rattle.module_report.specs.Line.{module_line}
use Rattle.refusal_names.specs.Modules.{refusal_of_error, refusal_of_invalid}
use Rattle.bench_outside.specs.declared.refusal.FileId.TheVariants.{Main}
use Rattle.bench_top.specs.declared.status.Status.{Status}
use Rattle.bench_top.specs.declared.status.Status.TheVariants.{Done, Refused, Memory}
use Rattle.bench_top.specs.Refusals.{refused_if}
use Rattle.bench_top.specs.Deed.{Deed}

-- The status of a file that isn't read. No file has the fault that memory ran out.
abbrev pub error_status : ReadError → Status
error_status error = refused_if (refusal_of_error Main error)

-- the status of a module that isn't valid: the first rule that fails
abbrev pub invalid_status : Invalid → Status
invalid_status invalid = Refused (refusal_of_invalid Main invalid)

-- the status where a file isn't that of a valid module
abbrev pub unaccepted_status : ReportError → Status
unaccepted_status (report.Read error) = error_status error
unaccepted_status (report.Invalid (invalid.Rule rule place at)) = invalid_status (record { rule = rule; place = place; at = at })
unaccepted_status (report.Invalid invalid.Memory) = Memory

-- the status of a module, and what is written of it: its line, where it is valid
abbrev pub valid_status : Verdict → Status
valid_status (Ok u) = Done
valid_status (Err invalid) = invalid_status invalid

abbrev pub valid_lines : NestedModule → Verdict → List (List ℕ)
valid_lines m (Ok u) = module_line m ∷ []
valid_lines m (Err invalid) = []

-- those of a file that is read as a module, or that has a fault
abbrev pub read_status : Result NestedModule Fault → Status
read_status (Ok m) = valid_status (validity m)
read_status (Err e) = error_status (error_of e)

abbrev pub read_lines : Result NestedModule Fault → List (List ℕ)
read_lines (Ok m) = valid_lines m (validity m)
read_lines (Err e) = []

-- What is to be done where the file holds these bytes. They are read as the module that they spell, or have a first
-- fault; a file over its limit has that fault. The rules of validity come behind all faults.
abbrev pub wasm_deed : List ℕ → List ℕ → Deed
wasm_deed file bytes = record {
  asked = (Main, file) ∷ [];
  status = read_status (module_read bytes);
  lines = read_lines (module_read bytes);
}
