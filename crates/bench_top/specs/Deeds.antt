-- What each command has to do: one line for each.
use Rattle.std.specs.Prelude.{◌≡◌}
use Rattle.bench_outside.specs.Shelf.{Contents}
use Rattle.bench_top.specs.Words.{Command, Play, Wasm, Call, Run}
use Rattle.bench_top.specs.Deed.{Deed}
use Rattle.bench_top.specs.Playing.{IsPlayDeed, file_limit, event_budget}
use Rattle.bench_top.specs.Telling.{wasm_deed}
use Rattle.bench_top.specs.Calling.{call_deed}
use Rattle.bench_top.specs.Running.{run_deed}

-- this command has to do this, where the shelf holds this
abbrev pub Does : Command → Contents → Deed → Type 0
Does (Play file) held deed = IsPlayDeed file_limit event_budget file held deed
Does (Wasm file) held deed = deed ≡ wasm_deed file (held file)
Does (Call words) held deed = deed ≡ call_deed words (held words.file)
Does (Run net) held deed = deed ≡ run_deed net held
