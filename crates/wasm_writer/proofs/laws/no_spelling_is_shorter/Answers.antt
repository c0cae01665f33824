use Rattle.std.proofs.Common.{ℕ, List}
use Rattle.wasm_writer.specs.Shortest.{IsShortest}
use Rattle.wasm_writer.proofs.Least.{Least}
use Rattle.wasm_writer.proofs.LeastCode.{instr_least}
use Rattle.wasm_writer.proofs.LeastParts.{body_least}
use Rattle.wasm_writer.proofs.LeastModule.{module_least}
use Rattle.wasm_writer.proofs.laws.no_spelling_is_shorter.Goals as goal

shortest_of : (P : List ℕ → Type 0) (text : List ℕ) → Least P text → (other : List ℕ) → P other → IsShortest P text
shortest_of P text least other s = record { spelled = least.spelled other s; unbeaten = least.unbeaten }

pub returns-clause-instr : goal.returns-clause-instr
returns-clause-instr c = λ i text s. shortest_of _ _ (instr_least i) text s

pub returns-clause-body : goal.returns-clause-body
returns-clause-body c = λ f text s. shortest_of _ _ (body_least f) text s

pub returns-clause-whole : goal.returns-clause-whole
returns-clause-whole c = λ m bytes s. shortest_of _ _ (module_least m) bytes s
