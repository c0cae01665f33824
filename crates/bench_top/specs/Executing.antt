-- What a call did that carries out a command, and what one did with the words of the command line.
use Rattle.std.specs.Prelude.{◌≡◌, ◌≢◌, ◌⊎◌, ◌↔◌, ℕ, List, Some, None}
use Rattle.bench_outside.specs.Causes.{Rose}
use Rattle.bench_outside.specs.Shelf.{Contents}
use Rattle.bench_outside.specs.declared.sink.Sink.{Ghosts as sink_ghosts}
use Rattle.bench_outside.specs.declared.shelf.Shelf.{Ghosts as shelf_ghosts}
use Rattle.bench_outside.specs.declared.refusal.FileId.{FileId}
use Rattle.bench_outside.specs.declared.refusal.Refusal.{Refusal}
use Rattle.bench_top.specs.declared.status.Status.{Status}
use Rattle.bench_top.specs.declared.status.Status.TheVariants.{Usage, Refused, Unread, Memory}
use Rattle.bench_top.specs.Words.{Command, command_of, name_in_words}
use Rattle.bench_top.specs.Deed.{Deed, CarriedOut, Caused}
use Rattle.bench_top.specs.Deeds.{Does}

module _ {H O : Type 0} (shelf : shelf_ghosts H) (sink : sink_ghosts O) where
  -- This command was carried out.
  pub record CarriesOut (command : Command) (before now : H) (old new : O) (result : Status) : Type 0 where
    -- where the shelf tells what it holds: which answer comes, and what is written
    pub carried : (held : Contents) → shelf.holds before ≡ Some held
        → (deed : Deed) × Does command held deed × CarriedOut sink deed old new (shelf.read_faults now).last result
    -- nothing is written where a file is refused, also where memory ran out before that was found
    pub spared : (held : Contents) (deed : Deed) (r : Refusal) → shelf.holds before ≡ Some held
        → Does command held deed → deed.status ≡ Refused r → new ≡ old
    -- a file that the words name and that couldn't be read is that of the last read that failed
    pub named : (file : FileId) (name : List ℕ) → result ≡ Unread file
        → name_in_words command file ≡ Some name → (shelf.read_faults now).last ≡ name
    -- each fault is answered and each answer of a fault has one; the shelf holds what it held
    pub caused : Caused shelf sink before now old new result
    pub form : result ≢ Usage

  -- The command that these words are was carried out, if they are one.
  pub record Executes (words : List (List ℕ)) (before now : H) (old new : O) (result : Status) : Type 0 where
    pub usage : (result ≡ Usage) ↔ (command_of words ≡ None)
    -- Which answer comes, and what is written. Want of memory is the only answer that may always come.
    pub carried : (c : Command) (held : Contents) → command_of words ≡ Some c → shelf.holds before ≡ Some held
        → (deed : Deed) × Does c held deed × CarriedOut sink deed old new (shelf.read_faults now).last result
    pub spared : (c : Command) (held : Contents) (deed : Deed) (r : Refusal)
        → command_of words ≡ Some c → shelf.holds before ≡ Some held
        → Does c held deed → deed.status ≡ Refused r → new ≡ old
    -- where no fault was counted it ends as it has to
    pub complete : (c : Command) (held : Contents) → command_of words ≡ Some c → shelf.holds before ≡ Some held
        → ¬ (Rose (shelf.read_faults before).count (shelf.read_faults now).count)
        → ¬ (Rose (sink.faults old) (sink.faults new))
        → (deed : Deed) × Does c held deed × ((result ≡ deed.status) ⊎ (result ≡ Memory))
    pub caused : Caused shelf sink before now old new result
    pub named : (c : Command) (file : FileId) (name : List ℕ)
        → command_of words ≡ Some c → result ≡ Unread file
        → name_in_words c file ≡ Some name → (shelf.read_faults now).last ≡ name
    -- without a command the shelf isn't even read
    pub idle : result ≡ Usage → now ≡ before
