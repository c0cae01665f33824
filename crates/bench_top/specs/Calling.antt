-- call FILE NAME FUEL ARGS: how a call of a function of a file's module ends, in one line.
use Rattle.std.specs.Prelude.{ℕ, List, [], ◌∷◌, Result, Ok, Err}
use Rattle.wasm_types.specs.Modules.{NestedModule}
use Rattle.module_specs.specs.declared.fault.Fault.{Fault}
use Rattle.module_specs.specs.ModuleReading.{module_read}
use Rattle.code_specs.specs.Validity.{Verdict, validity}
use Rattle.wasm_reader.specs.Outcome.{error_of}
use Rattle.call_specs.specs.declared.fault.CallFault.{CallFault}
use Rattle.call_specs.specs.declared.fault.CallFault.TheVariants as fault
use Rattle.call_specs.specs.CallWords.{CallWords}
use Rattle.call_specs.specs.Called.{called}
use Rattle.call_specs.specs.CallLine.{call_line}
use Rattle.call_run.specs.declared.report.CallError.{CallError}
use Rattle.call_run.specs.declared.report.CallError.TheVariants as error
use Rattle.refusal_names.specs.Modules.{refusal_of_misfit}
use Rattle.bench_outside.specs.declared.refusal.FileId.TheVariants.{Main}
use Rattle.bench_outside.specs.declared.refusal.Refusal.{Refusal}
use Rattle.bench_outside.specs.declared.refusal.Why.TheVariants as why
use Rattle.bench_top.specs.declared.status.Status.{Status}
use Rattle.bench_top.specs.declared.status.Status.TheVariants.{Done, Refused, Memory}
use Rattle.bench_top.specs.Refusals.{main_refusal}
use Rattle.bench_top.specs.Deed.{Deed}
use Rattle.bench_top.specs.Telling.{error_status, invalid_status, unaccepted_status}

abbrev pub fault_refusal : CallFault → Refusal
fault_refusal (fault.Segment misfit) = refusal_of_misfit Main misfit
fault_refusal fault.Export = main_refusal why.Export 0
fault_refusal (fault.Args place) = main_refusal why.Args place

-- the status where no function is called
abbrev pub uncalled_status : CallError → Status
uncalled_status (error.Module unaccepted) = unaccepted_status unaccepted
uncalled_status (error.Call fault) = Refused (fault_refusal fault)
uncalled_status error.Memory = Memory

-- the status of a call, and what is written of it: its line, where a function of the module is called
abbrev pub called_status : Result ℕ CallFault → Status
called_status (Ok index) = Done
called_status (Err fault) = Refused (fault_refusal fault)

abbrev pub called_lines : CallWords → NestedModule → Result ℕ CallFault → List (List ℕ)
called_lines words m (Ok index) = call_line m index words.arguments words.fuel ∷ []
called_lines words m (Err fault) = []

-- those where a module is valid, or isn't
abbrev pub checked_status : CallWords → NestedModule → Verdict → Status
checked_status words m (Ok u) = called_status (called m words.name words.arguments)
checked_status words m (Err invalid) = invalid_status invalid

abbrev pub checked_lines : CallWords → NestedModule → Verdict → List (List ℕ)
checked_lines words m (Ok u) = called_lines words m (called m words.name words.arguments)
checked_lines words m (Err invalid) = []

-- those of a file that is read as a module, or that has a fault
abbrev pub call_status : CallWords → Result NestedModule Fault → Status
call_status words (Ok m) = checked_status words m (validity m)
call_status words (Err e) = error_status (error_of e)

abbrev pub call_lines : CallWords → Result NestedModule Fault → List (List ℕ)
call_lines words (Ok m) = checked_lines words m (validity m)
call_lines words (Err e) = []

-- What is to be done where the file holds these bytes. The conditions of a call come behind all faults of the file and
-- all rules of validity.
abbrev pub call_deed : CallWords → List ℕ → Deed
call_deed words bytes = record {
  asked = (Main, words.file) ∷ [];
  status = call_status words (module_read bytes);
  lines = call_lines words (module_read bytes);
}
