-- A command that was carried out, as the words that name it say.
use Rattle.std.proofs.Common.{◌≡◌, ◌≢◌, ◌⊎◌, ℕ, List, refl, sym, ◌∙◌, subst, inl, inr}
use Rattle.std.specs.Prelude.{Some, None}
use Rattle.bench_outside.specs.Causes.{Rose}
use Rattle.bench_outside.specs.declared.sink.Sink.{Ghosts as sink_ghosts}
use Rattle.bench_outside.specs.declared.shelf.Shelf.{Ghosts as shelf_ghosts}
use Rattle.bench_outside.specs.declared.refusal.FileId.{FileId}
use Rattle.bench_outside.specs.declared.refusal.FileId.TheVariants.{Main, Description, Module}
use Rattle.network_specs.specs.Networks.{network_file_name}
use Rattle.bench_top.specs.declared.status.Status.{Status}
use Rattle.bench_top.specs.declared.status.Status.TheVariants.{Done, Usage, Refused, Unread, Unwritten, Memory, Spent}
use Rattle.bench_top.specs.Words.{Command, Run, command_of, name_in_words}
use Rattle.bench_top.specs.Deed.{IsFault, Deed, CarriedOut, Caused}
use Rattle.bench_top.specs.Deeds.{Does}
use Rattle.bench_top.specs.Executing.{CarriesOut, Executes}

-- where the file that the command names couldn't be read, and this is its name
pub named_main : (command : Command) (own last : List ℕ) → name_in_words command Main ≡ Some own → last ≡ own
    → (file : FileId) (name : List ℕ) → Unread Main ≡ Unread file → name_in_words command file ≡ Some name → last ≡ name
named_main command own last is same file name e in_words =
    let main : Main ≡ file = cc in
    let both : Some own ≡ Some name = sym is ∙ subst (λ f. name_in_words command f ≡ Some name) (sym main) in_words in
    same ∙ cc

-- the same of a network: its words name no other file
pub named_net : (net last : List ℕ) (result : Status) → (result ≡ Unread Main → last ≡ network_file_name net)
    → (file : FileId) (name : List ℕ) → result ≡ Unread file → name_in_words (Run net) file ≡ Some name → last ≡ name
named_net net last result own Main name e in_words =
    let both : Some (network_file_name net) ≡ Some name = in_words in
    own e ∙ cc
named_net net last result own (Description node) name e in_words = let none : None ≡ Some name = in_words in absurd cc
named_net net last result own (Module node) name e in_words = let none : None ≡ Some name = in_words in absurd cc

module _ {H O : Type 0} (shelf : shelf_ghosts H) (sink : sink_ghosts O) (before now : H) (old new : O) where
  -- without a fault only want of memory keeps a call from ending as it has to
  pub ends : (result status : Status) → Caused shelf sink before now old new result
      → ¬ (Rose (shelf.read_faults before).count (shelf.read_faults now).count) → ¬ (Rose (sink.faults old) (sink.faults new))
      → IsFault result ⊎ (result ≡ status) → (result ≡ status) ⊎ (result ≡ Memory)
  ends result status caused quiet silent (inr e) = inl e
  ends Done status caused quiet silent (inl fault) = absurd fault
  ends Usage status caused quiet silent (inl fault) = absurd fault
  ends (Refused refusal) status caused quiet silent (inl fault) = absurd fault
  ends (Unread file) status caused quiet silent (inl fault) = absurd (quiet (caused.unread file refl))
  ends Unwritten status caused quiet silent (inl fault) = absurd (silent (caused.unwritten refl))
  ends Memory status caused quiet silent (inl fault) = inr refl
  ends Spent status caused quiet silent (inl fault) = absurd fault

  pub executed : (words : List (List ℕ)) (command : Command) (result : Status) → command_of words ≡ Some command
      → CarriesOut shelf sink command before now old new result → Executes shelf sink words before now old new result
  executed words command result is did = record {
    usage = (λ e. absurd (did.form e), λ none. absurd (unlike none));
    carried = λ c held at h. subst (λ c. (deed : Deed) × Does c held deed × CarriedOut sink deed old new (shelf.read_faults now).last
        result) (same c at) (did.carried held h);
    spared = λ c held deed r at h does e. did.spared held deed r h (subst (λ c. Does c held deed) (sym (same c at)) does) e;
    complete = λ c held at h quiet silent.
        let deed = did.carried held h in
        (deed.0, subst (λ c. Does c held deed.0) (same c at) deed.1, ends result (deed.0).status did.caused quiet silent deed.2.answer);
    caused = did.caused;
    named = λ c file name at e in_words. did.named file name e (subst (λ c. name_in_words c file ≡ Some name) (sym (same c at)) in_words);
    idle = λ e. absurd (did.form e);
  }
    where
      same : (c : Command) → command_of words ≡ Some c → command ≡ c
      same c at = let both : Some command ≡ Some c = sym is ∙ at in cc

      unlike : command_of words ≡ None → ⊥
      unlike none = let both : Some command ≡ None = sym is ∙ none in cc
