-- The line that is written beside the output, on how a call ended.
use Rattle.std.specs.Prelude.{◌≡◌, ℕ, List, [], ◌∷◌, ◌++◌, flat_map, codes, decimal, refl}
use Rattle.std.specs.Fmt.{digits}
use Rattle.bench_outside.specs.Pieces.{joined}
use Rattle.bench_outside.specs.declared.refusal.FileId.{FileId}
use Rattle.bench_outside.specs.declared.refusal.FileId.TheVariants.{Main, Description, Module}
use Rattle.bench_outside.specs.declared.refusal.Why.{Why}
use Rattle.bench_outside.specs.declared.refusal.Why.TheVariants as why
use Rattle.bench_outside.specs.declared.refusal.Refusal.{Refusal}
use Rattle.refusal_names.specs.Modules.{refusal_at}
use Rattle.bench_top.specs.declared.status.Status.{Status}
use Rattle.bench_top.specs.declared.status.Status.TheVariants.{Done, Usage, Refused, Unread, Unwritten, Memory, Spent}
use Rattle.bench_top.specs.Refusals.{main_refusal}

-- the words for a file, but the last, and the last
abbrev pub first_words : FileId → List (List ℕ)
first_words Main = []
first_words (Description node) = codes "description" ∷ []
first_words (Module node) = codes "module" ∷ []

abbrev pub last_word : FileId → List ℕ
last_word Main = codes "main"
last_word (Description node) = decimal node
last_word (Module node) = decimal node

-- What is printed of a rule or a field: a rule's name, or a field's key behind the name of the array that its tables stand
-- in. Here the fields of a description.
abbrev pub description_key : Why → List ℕ
description_key why.FmiVersion = codes "fmiVersion"
description_key why.ModelName = codes "modelName"
description_key why.InstantiationToken = codes "instantiationToken"
description_key why.CoSimulation = codes "CoSimulation"
description_key why.ModelIdentifier = codes "modelIdentifier"
description_key why.HasEventMode = codes "hasEventMode"
description_key why.Clock = codes "Clock"
description_key why.ClockName = codes "Clock.name"
description_key why.ClockValueReference = codes "Clock.valueReference"
description_key why.ClockCausality = codes "Clock.causality"
description_key why.ClockIntervalVariability = codes "Clock.intervalVariability"
description_key why.Binary = codes "Binary"
description_key why.BinaryName = codes "Binary.name"
description_key why.BinaryValueReference = codes "Binary.valueReference"
description_key why.BinaryCausality = codes "Binary.causality"
description_key why.BinaryClocks = codes "Binary.clocks"
description_key why.BinaryMaxSize = codes "Binary.maxSize"
description_key why.Terminal = codes "Terminal"
description_key why.TerminalName = codes "Terminal.name"
description_key why.TerminalRxData = codes "Terminal.Rx_Data"
description_key why.TerminalRxClock = codes "Terminal.Rx_Clock"
description_key why.TerminalTxData = codes "Terminal.Tx_Data"
description_key why.TerminalTxClock = codes "Terminal.Tx_Clock"
description_key other = []

-- the two rules of each document, and the fields
abbrev pub field_key : Why → List ℕ
field_key why.Size = codes "Size"
field_key why.Toml = codes "Toml"
field_key why.Resolution = codes "resolution"
field_key why.Stop = codes "stop"
field_key why.Events = codes "events"
field_key why.Fuel = codes "fuel"
field_key why.Bus = codes "bus"
field_key why.BusName = codes "bus.name"
field_key why.BusRate = codes "bus.rate"
field_key why.BusFdRate = codes "bus.fd_rate"
field_key why.Node = codes "node"
field_key why.NodeName = codes "node.name"
field_key why.NodeFmu = codes "node.fmu"
field_key why.NodeBus = codes "node.bus"
field_key why.Error = codes "error"
field_key why.ErrorBus = codes "error.bus"
field_key why.ErrorAttempt = codes "error.attempt"
field_key why.ErrorCount = codes "error.count"
field_key why.ErrorKind = codes "error.kind"
field_key why.ErrorBy = codes "error.by"
field_key why.ErrorBit = codes "error.bit"
field_key other = description_key other

-- the other rules, and those
abbrev pub why_text : Why → List ℕ
why_text why.Line = codes "Line"
why_text why.Short = codes "Short"
why_text why.Magic = codes "Magic"
why_text why.Version = codes "Version"
why_text why.Section = codes "Section"
why_text why.Order = codes "Order"
why_text why.Number = codes "Number"
why_text why.Import = codes "Import"
why_text why.Float = codes "Float"
why_text why.Form = codes "Form"
why_text why.Utf8 = codes "Utf8"
why_text why.Opcode = codes "Opcode"
why_text why.Nesting = codes "Nesting"
why_text why.Count = codes "Count"
why_text why.Limit = codes "Limit"
why_text why.TypeResult = codes "TypeResult"
why_text why.FuncType = codes "FuncType"
why_text why.Limits = codes "Limits"
why_text why.Global = codes "Global"
why_text why.Export = codes "Export"
why_text why.Start = codes "Start"
why_text why.Element = codes "Element"
why_text why.Data = codes "Data"
why_text why.Index = codes "Index"
why_text why.Align = codes "Align"
why_text why.Operand = codes "Operand"
why_text why.Slots = codes "Slots"
why_text why.Segment = codes "Segment"
why_text why.Args = codes "Args"
why_text why.Missing = codes "Missing"
why_text why.Signature = codes "Signature"
why_text other = field_key other

-- The pieces in which a line is written: words, each with a space behind it, and a last one with a line feed.
abbrev pub line_pieces : List (List ℕ) → List ℕ → List (List ℕ)
line_pieces words last = flat_map (λ word. word ∷ (32 ∷ []) ∷ []) words ++ last ∷ (10 ∷ []) ∷ []

abbrev pub refusal_pieces : Refusal → List (List ℕ)
refusal_pieces r =
    line_pieces (codes "refused" ∷ first_words r.file ++ last_word r.file ∷ why_text r.why ∷ decimal r.place ∷ []) (decimal r.at)

abbrev pub unread_pieces : FileId → List (List ℕ)
unread_pieces file = line_pieces (codes "unread" ∷ first_words file) (last_word file)

-- the pieces of the line on a status; none where the command was carried out to its end
abbrev pub report_pieces : Status → List (List ℕ)
report_pieces Done = []
report_pieces Usage = line_pieces [] (codes "usage")
report_pieces (Refused refusal) = refusal_pieces refusal
report_pieces (Unread file) = unread_pieces file
report_pieces Unwritten = line_pieces [] (codes "unwritten")
report_pieces Memory = line_pieces [] (codes "memory")
report_pieces Spent = line_pieces [] (codes "spent")

-- one line, or nothing
abbrev pub report_text : Status → List ℕ
report_text status = joined (report_pieces status)

report_text-bad_line : report_text (Refused (main_refusal why.Line 3)) ≡ codes "refused main Line 3 0" ++ 10 ∷ []
unfolding digits
report_text-bad_line = refl

report_text-size : report_text (Refused (main_refusal why.Size 16777216)) ≡ codes "refused main Size 16777216 0" ++ 10 ∷ []
unfolding digits
report_text-size = refl

report_text-module : report_text (Refused (main_refusal why.Short 43)) ≡ codes "refused main Short 43 0" ++ 10 ∷ []
unfolding digits
report_text-module = refl

report_text-invalid : report_text (Refused (refusal_at Main why.Operand 0 3)) ≡ codes "refused main Operand 0 3" ++ 10 ∷ []
unfolding digits
report_text-invalid = refl

report_text-description :
    report_text (Refused (record { file = Description 3; why = why.TerminalRxData; place = 1; at = 0 }))
    ≡ codes "refused description 3 Terminal.Rx_Data 1 0" ++ 10 ∷ []
unfolding digits
report_text-description = refl

report_text-unread : report_text (Unread Main) ≡ codes "unread main" ++ 10 ∷ []
report_text-unread = refl

report_text-unread_module : report_text (Unread (Module 31)) ≡ codes "unread module 31" ++ 10 ∷ []
unfolding digits
report_text-unread_module = refl

report_text-done : report_text Done ≡ []
report_text-done = refl
