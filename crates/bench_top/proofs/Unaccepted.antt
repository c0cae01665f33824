-- Why a file isn't that of a valid module: its first fault, or the first rule that fails. So it is answered.
use Rattle.std.proofs.Common.{◌≡◌, ◌⊎◌, ℕ, List, [], refl, sym, ap, ◌∙◌, subst, inl, inr}
use Rattle.std.specs.Prelude.{Result, Ok, Err}
use Rattle.wasm_types.specs.Modules.{NestedModule}
use Rattle.module_specs.specs.declared.fault.Fault.{Fault}
use Rattle.code_specs.specs.declared.rule.Rule.{Rule}
use Rattle.code_specs.specs.Validity.{Invalid, IsValid, validity}
use Rattle.wasm_reader.specs.declared.error.ReadError.{ReadError}
use Rattle.wasm_reader.specs.declared.error.ReadError.TheVariants as read_error
use Rattle.wasm_reader.specs.Outcome.{error_of}
use Rattle.wasm_validate.specs.declared.invalid.Invalid.TheVariants as invalid_error
use Rattle.module_report.specs.declared.report.ReportError.{ReportError}
use Rattle.module_report.specs.declared.report.ReportError.TheVariants as report
use Rattle.call_run.specs.declared.report.CallError.{CallError}
use Rattle.call_run.specs.declared.report.CallError.TheVariants as call
use Rattle.call_specs.specs.declared.fault.CallFault.{CallFault}
use Rattle.call_specs.specs.CallWords.{CallWords}
use Rattle.call_specs.specs.Called.{called}
use Rattle.bench_outside.specs.declared.sink.Sink.{Ghosts}
use Rattle.bench_outside.specs.Pieces.{WritesAll}
use Rattle.bench_outside.specs.PieceSteps.{writes_nothing}
use Rattle.bench_top.specs.declared.status.Status.{Status}
use Rattle.bench_top.specs.Deed.{IsFault}
use Rattle.bench_top.specs.Telling.{error_status, unaccepted_status, valid_lines, read_lines}
use Rattle.bench_top.specs.Calling.{called_lines, checked_lines, call_lines, uncalled_status}

-- what an error says of what was read
abbrev Faulty : Result NestedModule Fault → ReadError → Type 0
Faulty read error = (error ≡ read_error.Memory) ⊎ ((fault : Fault) × (error ≡ error_of fault) × (read ≡ Err fault))

abbrev Invalid_at : Result NestedModule Fault → Rule → ℕ → ℕ → Type 0
Invalid_at read rule place at = (m : NestedModule) × (read ≡ Ok m) × (validity m ≡ Err (record { rule = rule; place = place; at = at }))

abbrev Uncalled : CallWords → Result NestedModule Fault → CallFault → Type 0
Uncalled words read fault = (m : NestedModule) × (read ≡ Ok m) × IsValid m × (called m words.name words.arguments ≡ Err fault)

-- this is a fault's status, or nothing is written
abbrev Silent : Status → List (List ℕ) → Type 0
Silent status lines = IsFault status ⊎ (lines ≡ [])

pub whole : {S : Type 0} (sink : Ghosts S) (s : S) (status : Status) (lines : List (List ℕ)) → Silent status lines
    → IsFault status ⊎ WritesAll sink s s lines
whole sink s status lines (inl fault) = inl fault
whole sink s status lines (inr e) = inr (subst (WritesAll sink s s) (sym e) (writes_nothing sink s))

-- lines that are none at each fault, and at each rule of validity
module _ (lines : Result NestedModule Fault → List (List ℕ)) (of_fault : (fault : Fault) → lines (Err fault) ≡ [])
    (of_rule : (m : NestedModule) (i : Invalid) → validity m ≡ Err i → lines (Ok m) ≡ []) (read : Result NestedModule Fault) where
  faulty : (error : ReadError) → Faulty read error → Silent (error_status error) (lines read)
  faulty error (inl memory) = inl (subst (λ e. IsFault (error_status e)) (sym memory) tt)
  faulty error (inr known) = inr (ap lines known.2 ∙ of_fault known.0)

  unaccepted : (error : ReportError)
      → ((e : ReadError) → error ≡ report.Read e → Faulty read e)
      → ((rule : Rule) (place at : ℕ) → error ≡ report.Invalid (invalid_error.Rule rule place at) → Invalid_at read rule place at)
      → Silent (unaccepted_status error) (lines read)
  unaccepted (report.Read e) fault invalid = faulty e (fault e refl)
  unaccepted (report.Invalid (invalid_error.Rule rule place at)) fault invalid =
      let known = invalid rule place at refl in inr (ap lines known.1 ∙ of_rule known.0 _ known.2)
  unaccepted (report.Invalid invalid_error.Memory) fault invalid = inl tt

-- as a file is told of
pub untold : (read : Result NestedModule Fault) (error : ReportError)
    → ((e : ReadError) → error ≡ report.Read e → Faulty read e)
    → ((rule : Rule) (place at : ℕ) → error ≡ report.Invalid (invalid_error.Rule rule place at) → Invalid_at read rule place at)
    → Silent (unaccepted_status error) (read_lines read)
untold read = unaccepted read_lines (λ fault. refl) (λ m i e. ap (valid_lines m) e) read

-- as one of its functions is called
pub uncalled : (words : CallWords) (read : Result NestedModule Fault) (error : CallError)
    → ((e : ReadError) → error ≡ call.Module (report.Read e) → Faulty read e)
    → ((rule : Rule) (place at : ℕ) → error ≡ call.Module (report.Invalid (invalid_error.Rule rule place at))
    → Invalid_at read rule place at)
    → ((fault : CallFault) → error ≡ call.Call fault → Uncalled words read fault)
    → Silent (uncalled_status error) (call_lines words read)
uncalled words read (call.Module error) fault invalid refused =
    unaccepted (call_lines words) (λ fault. refl) (λ m i e. ap (checked_lines words m) e) read error
    (λ e is. fault e (ap call.Module is)) (λ rule place at is. invalid rule place at (ap call.Module is))
uncalled words read (call.Call fault) faulty invalid refused =
    let known = refused fault refl in
    inr (ap (call_lines words) known.1 ∙ ap (checked_lines words known.0) known.2 ∙ ap (called_lines words known.0) known.3)
uncalled words read call.Memory fault invalid refused = inl tt
