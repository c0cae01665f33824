-- The refusal of a module's file: the name of the rule that it breaks, and where.
use Rattle.std.specs.Prelude.{ℕ, Option, Some, None}
use Rattle.module_specs.specs.declared.fault.Fault.{Fault}
use Rattle.code_specs.specs.declared.rule.Rule.{Rule}
use Rattle.code_specs.specs.declared.rule.Rule.TheVariants as rule
use Rattle.code_specs.specs.declared.segment.Misfit.{Misfit}
use Rattle.code_specs.specs.declared.segment.Misfit.TheVariants as misfit
use Rattle.code_specs.specs.Validity.{Invalid}
use Rattle.binding_specs.specs.declared.error.BindError.{BindError}
use Rattle.binding_specs.specs.declared.error.BindError.TheVariants as bind
use Rattle.wasm_reader.specs.declared.error.ReadError.{ReadError}
use Rattle.wasm_reader.specs.declared.error.ReadError.TheVariants as error
use Rattle.wasm_reader.specs.Outcome.{error_of}
use Rattle.bench_outside.specs.declared.refusal.FileId.{FileId}
use Rattle.bench_outside.specs.declared.refusal.Why.{Why}
use Rattle.bench_outside.specs.declared.refusal.Why.TheVariants as why
use Rattle.bench_outside.specs.declared.refusal.Refusal.{Refusal}

-- the file breaks this rule at this place, and there at this second number
abbrev pub refusal_at : FileId → Why → (place at : ℕ) → Refusal
refusal_at file why place at = record { file = file; why = why; place = place; at = at }

abbrev pub refusal : FileId → Why → (place : ℕ) → Refusal
refusal file why place = refusal_at file why place 0

-- The name of a fault, and the place. No file has the fault that memory ran out.
abbrev pub refusal_of_error : FileId → ReadError → Option Refusal
refusal_of_error file (error.Short at) = Some (refusal file why.Short at)
refusal_of_error file (error.Size at) = Some (refusal file why.Size at)
refusal_of_error file (error.Magic at) = Some (refusal file why.Magic at)
refusal_of_error file (error.Version at) = Some (refusal file why.Version at)
refusal_of_error file (error.Section at) = Some (refusal file why.Section at)
refusal_of_error file (error.Order at) = Some (refusal file why.Order at)
refusal_of_error file (error.Number at) = Some (refusal file why.Number at)
refusal_of_error file (error.Import at) = Some (refusal file why.Import at)
refusal_of_error file (error.Float at) = Some (refusal file why.Float at)
refusal_of_error file (error.Form at) = Some (refusal file why.Form at)
refusal_of_error file (error.Utf8 at) = Some (refusal file why.Utf8 at)
refusal_of_error file (error.Opcode at) = Some (refusal file why.Opcode at)
refusal_of_error file (error.Nesting at) = Some (refusal file why.Nesting at)
refusal_of_error file (error.Count at) = Some (refusal file why.Count at)
refusal_of_error file (error.Limit at) = Some (refusal file why.Limit at)
refusal_of_error file error.Memory = None

abbrev pub refusal_of_fault : FileId → Fault → Option Refusal
refusal_of_fault file fault = refusal_of_error file (error_of fault)

-- the name of a rule of validity
abbrev pub why_of_rule : Rule → Why
why_of_rule rule.TypeResult = why.TypeResult
why_of_rule rule.FuncType = why.FuncType
why_of_rule rule.Limits = why.Limits
why_of_rule rule.Global = why.Global
why_of_rule rule.Export = why.Export
why_of_rule rule.Start = why.Start
why_of_rule rule.Element = why.Element
why_of_rule rule.Data = why.Data
why_of_rule rule.Index = why.Index
why_of_rule rule.Align = why.Align
why_of_rule rule.Operand = why.Operand
why_of_rule rule.Slots = why.Slots

abbrev pub refusal_of_invalid : FileId → Invalid → Refusal
refusal_of_invalid file invalid = refusal_at file (why_of_rule invalid.rule) invalid.place invalid.at

-- a segment that doesn't fit, at its position: the second number is 0 for an element segment and 1 for a data segment
abbrev pub refusal_of_misfit : FileId → Misfit → Refusal
refusal_of_misfit file (misfit.Element place) = refusal_at file why.Segment place 0
refusal_of_misfit file (misfit.Data place) = refusal_at file why.Segment place 1

-- an export that a unit has to have, by its row
abbrev pub refusal_of_unbound : FileId → BindError → Refusal
refusal_of_unbound file (bind.Missing row) = refusal file why.Missing row
refusal_of_unbound file (bind.Signature row) = refusal file why.Signature row
