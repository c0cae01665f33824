-- The words of the command line, and the command that they are.
use Rattle.std.specs.Prelude.{◌≡◌, ℕ, List, [], ◌∷◌, Option, Some, None, option_map, if◌then◌else◌, codes, bytes_eq, refl}
use Rattle.plain_text.specs.Decimal.{number_in, number_of}
use Rattle.call_specs.specs.CallWords.{CallWords, call_words}
use Rattle.network_specs.specs.Networks.{network_file_name}
use Rattle.bench_outside.specs.declared.refusal.FileId.{FileId}
use Rattle.bench_outside.specs.declared.refusal.FileId.TheVariants.{Main}
use Rattle.bench_top.specs.declared.words.Command.{Command as code_command}
use Rattle.bench_top.specs.declared.words.Command.TheVariants.{Play as code_play, Wasm as code_wasm, Call as code_call, Run as code_run}
use Rattle.bench_top.specs.declared.words.CallWords.{CallWords as code_words}

-- one for each form of the words
pub data Command : Type 0 where
  -- play FILE
  Play : (file : List ℕ) → Command
  -- wasm FILE
  Wasm : (file : List ℕ) → Command
  -- call FILE NAME FUEL ARGS
  Call : (words : CallWords) → Command
  -- run NET
  Run : (net : List ℕ) → Command

-- a command that takes one word
abbrev pub of_one : (List ℕ → Command) → List (List ℕ) → Option Command
of_one command (word ∷ []) = Some (command word)
of_one command words = None

abbrev pub of_call : List (List ℕ) → Option Command
of_call words = option_map Call (call_words words)

-- the command that the words are; none where they are no form of a command
abbrev pub command_of : List (List ℕ) → Option Command
command_of [] = None
command_of (first ∷ words) =
    if bytes_eq first (codes "play") then of_one Play words
    else if bytes_eq first (codes "wasm") then of_one Wasm words
    else if bytes_eq first (codes "call") then of_call words
    else if bytes_eq first (codes "run") then of_one Run words
    else None

-- the name that the words give to a file; none where its name stands in another file
abbrev pub name_in_words : Command → FileId → Option (List ℕ)
name_in_words (Play file) Main = Some file
name_in_words (Wasm file) Main = Some file
name_in_words (Call words) Main = Some words.file
name_in_words (Run net) Main = Some (network_file_name net)
name_in_words command other = None

-- the words behind `call`, and the command, that the code holds
abbrev pub meant_call : code_words → CallWords
meant_call w = record { file = w.file.now; name = w.name.now; fuel = w.fuel; arguments = w.arguments.items }

abbrev pub meant : code_command → Command
meant (code_play file) = Play file.now
meant (code_wasm file) = Wasm file.now
meant (code_call words) = Call (meant_call words)
meant (code_run net) = Run net.now

command_of-play : command_of (codes "play" ∷ codes "a" ∷ []) ≡ Some (Play (codes "a"))
command_of-play = refl

command_of-wasm : command_of (codes "wasm" ∷ codes "a" ∷ []) ≡ Some (Wasm (codes "a"))
command_of-wasm = refl

command_of-call :
    command_of (codes "call" ∷ codes "a" ∷ codes "f" ∷ codes "9" ∷ codes "1" ∷ [])
    ≡ Some (Call (record { file = codes "a"; name = codes "f"; fuel = 9; arguments = 1 ∷ [] }))
unfolding number_in number_of
command_of-call = refl

command_of-run : command_of (codes "run" ∷ codes "a" ∷ []) ≡ Some (Run (codes "a"))
command_of-run = refl

command_of-other : command_of (codes "save" ∷ codes "a" ∷ []) ≡ None
command_of-other = refl

command_of-alone : command_of (codes "play" ∷ []) ≡ None
command_of-alone = refl

command_of-more : command_of (codes "play" ∷ codes "a" ∷ codes "b" ∷ []) ≡ None
command_of-more = refl
