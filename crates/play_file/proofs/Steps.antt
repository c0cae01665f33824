-- A line that is read is the line of what is read.
use Rattle.std.proofs.Common.{◌≡◌, ◌≤◌, ◌<◌, ℕ, ◌-◌, ◌^◌, ◌%◌, ◌==◌, ◌&&◌, Bool, true, false, List, [], ◌∷◌, ◌++◌, length, Option, Some, None, refl, sym, ap, subst, ◌∙◌, arith, append_assoc, length-append}
use Rattle.std.specs.Prelude.{if◌then◌else◌, nat_lt, decimal, codes, bytes_eq, map, option_and_then, option_map, unwrap_or, is_some, not, IfSome}
use Rattle.std.proofs.lemmas.Bool.Decides.{nat_tests}
use Rattle.std.proofs.lemmas.Bool.{and_parts}
use Rattle.std.proofs.lemmas.List.{map-append, append-nil}
use Rattle.std.proofs.lemmas.List.Elements.{All-nil, All-push}
use Rattle.std.proofs.lemmas.Slice.Eq.{bytes_eq-Decides}
use Rattle.frame_specs.specs.Frame.{Frame, is_fd}
use Rattle.frame_specs.specs.FrameReading.{frame_of, Spells}
use Rattle.frame_specs.proofs.FrameReadingLaws.{spells_from_frame_of}
use Rattle.bus_specs.specs.Bus.{ErrorEntry}
use Rattle.plain_text.specs.Decimal.{number_in}
use Rattle.plain_text.specs.Parts.{words_of}
use Rattle.play_specs.specs.Play.{Play, PlayAction, Verb, Send, Wake, Sleep, Keep, Discard, Between, IsRate, IsEntry, IsVerb, IsAction, Rises, IsPlay}
use Rattle.play_specs.specs.PlayText.{spaced, header_words, by_text, error_words, verb_words, action_words, text_lines}
use Rattle.play_file.specs.Walk.{rate_or_none, fd_divides, if_divides, header_in, header_of, with_entry, with_action, no_action, takes_entry, by_of, entry_in, last_of, bare_verb, sendable, sent, action_in, then_action, then_entry, with_words, step}
use Rattle.plain_text.proofs.Options.{bind_some, map_some, if_some}
use Rattle.plain_text.proofs.Separators.{joined_parts}
use Rattle.plain_text.proofs.Decimals.{IsNumber, number_in-some}

word_is : (text word : List ℕ) → bytes_eq text word ≡ true → word ≡ text
word_is text word same = sym ((bytes_eq-Decides text word).0 same)

-- ---- the header

-- a play with nothing behind its header, and its words
pub record IsHeader (p : Play) (words : List (List ℕ)) : Type 0 where
  pub play : IsPlay p
  pub no_errors : p.errors ≡ []
  pub no_actions : p.actions ≡ []
  pub written : header_words p ≡ words

rate_or_none-back : (rate : ℕ) → unwrap_or (rate_or_none rate) 0 ≡ rate
rate_or_none-back rate = by (rate == 0) refl
  where
    by : (none : Bool) → (rate == 0) ≡ none → unwrap_or (if none then None else Some rate) 0 ≡ rate
    by true e = let z : rate ≡ 0 = grind (arith, nat_tests) in sym z
    by false e = refl

rate_or_none-IsRate : (resolution rate : ℕ) → rate ≤ 2 ^ 32 - 1 → fd_divides resolution rate ≡ true → IfSome (rate_or_none rate) (IsRate resolution)
rate_or_none-IsRate resolution rate small divides = by (rate == 0) refl
  where
    by : (none : Bool) → (rate == 0) ≡ none → IfSome (if none then None else Some rate) (IsRate resolution)
    by true e = tt
    by false e =
        let ne : 1 ≤ rate = grind (arith, nat_tests) in
        let whole : ((resolution % rate) == 0) ≡ true = rw e at divides in
        record { in_range = (ne, small); divides = grind (arith, nat_tests) }

headed : (a b c d e : ℕ) (p : Play) → Between 1 (10 ^ 12) a → Between 1 (2 ^ 32 - 1) b → Between 0 (2 ^ 32 - 1) c → Between 1 32 d → Between 0 (2 ^ 62) e → if_divides a b c d e ≡ Some p
    → IsHeader p (codes "play" ∷ decimal a ∷ decimal b ∷ decimal c ∷ decimal d ∷ decimal e ∷ [])
headed a b c d e p ra rb rc rd re found =
    let q : Play = record { resolution = a; rate = b; fd_rate = rate_or_none c; nodes = d; stop = e; errors = []; actions = [] } in
    let test = if_some (((a % b) == 0) && fd_divides a c) (Some q) p found in
    let both = and_parts ((a % b) == 0) (fd_divides a c) test.0 in
    let whole : ((a % b) == 0) ≡ true = both.0 in
    let same : q ≡ p = cc in
    let P : Play → Type 0 = λ x. IsHeader x (codes "play" ∷ decimal a ∷ decimal b ∷ decimal c ∷ decimal d ∷ decimal e ∷ []) in
    let is : P q = record {
      play = record {
        resolution = ra;
        rate = record { in_range = rb; divides = grind (arith, nat_tests) };
        fd_rate = rate_or_none-IsRate a c rc.1 both.1;
        nodes = rd;
        stop = re.1;
        few_errors = omega arith;
        errors = All-nil (IsEntry d);
        actions = All-nil (IsAction d (rate_or_none c));
        rises = tt;
      };
      no_errors = refl;
      no_actions = refl;
      written = ap (λ x. codes "play" ∷ decimal a ∷ decimal b ∷ decimal x ∷ decimal d ∷ decimal e ∷ []) (rate_or_none-back c);
    } in
    subst P same is

header_in-some : (r t f n s : List ℕ) (p : Play) → header_in r t f n s ≡ Some p → IsHeader p (codes "play" ∷ r ∷ t ∷ f ∷ n ∷ s ∷ [])
unfolding header_in
header_in-some r t f n s p found =
    let a = bind_some (number_in 1 (10 ^ 12) r) _ p found in
    let b = bind_some (number_in 1 (2 ^ 32 - 1) t) _ p a.2 in
    let c = bind_some (number_in 0 (2 ^ 32 - 1) f) _ p b.2 in
    let d = bind_some (number_in 1 32 n) _ p c.2 in
    let e = bind_some (number_in 0 (2 ^ 62) s) _ p d.2 in
    let na : IsNumber 1 (10 ^ 12) a.0 r = number_in-some 1 (10 ^ 12) a.0 r (omega arith) a.1 in
    let nb : IsNumber 1 (2 ^ 32 - 1) b.0 t = number_in-some 1 (2 ^ 32 - 1) b.0 t (omega arith) b.1 in
    let nc : IsNumber 0 (2 ^ 32 - 1) c.0 f = number_in-some 0 (2 ^ 32 - 1) c.0 f (omega arith) c.1 in
    let nd : IsNumber 1 32 d.0 n = number_in-some 1 32 d.0 n (omega arith) d.1 in
    let ne : IsNumber 0 (2 ^ 62) e.0 s = number_in-some 0 (2 ^ 62) e.0 s (omega arith) e.1 in
    let is = headed a.0 b.0 c.0 d.0 e.0 p na.range nb.range nc.range nd.range ne.range e.2 in
    record { play = is.play; no_errors = is.no_errors; no_actions = is.no_actions; written = cc (is.written, na.written, nb.written, nc.written, nd.written, ne.written) }

header_of-some : (words : List (List ℕ)) (p : Play) → header_of words ≡ Some p → IsHeader p words
header_of-some [] p found = cc
header_of-some (a ∷ []) p found = cc
header_of-some (a ∷ b ∷ []) p found = cc
header_of-some (a ∷ b ∷ c ∷ []) p found = cc
header_of-some (a ∷ b ∷ c ∷ d ∷ []) p found = cc
header_of-some (a ∷ b ∷ c ∷ d ∷ e ∷ []) p found = cc
header_of-some (a ∷ b ∷ c ∷ d ∷ e ∷ f ∷ g ∷ rest) p found = cc
header_of-some (word ∷ r ∷ t ∷ f ∷ n ∷ s ∷ []) p found =
    let test = if_some (bytes_eq word (codes "play")) (header_in r t f n s) p found in
    let is = header_in-some r t f n s p test.1 in
    record { play = is.play; no_errors = is.no_errors; no_actions = is.no_actions; written = is.written ∙ ap (λ w. w ∷ r ∷ t ∷ f ∷ n ∷ s ∷ []) (word_is word (codes "play") test.0) }

-- a play whose lines are these
pub record Reads (p : Play) (lines : List (List ℕ)) : Type 0 where
  pub play : IsPlay p
  pub written : text_lines p ≡ lines

abbrev pub entry_line : ErrorEntry → List ℕ
entry_line e = spaced (error_words e)

abbrev pub action_line : PlayAction → List ℕ
action_line a = spaced (action_words a)

-- a line, and behind it those of entries and of actions
abbrev pub laid : List ℕ → List ErrorEntry → List PlayAction → List (List ℕ)
laid h es as' = h ∷ (map entry_line es ++ map action_line as')

pub text_lines-laid : (p : Play) → text_lines p ≡ laid (spaced (header_words p)) p.errors p.actions
unfolding text_lines
text_lines-laid p = refl

laid-entry : (h : List ℕ) (es : List ErrorEntry) (e : ErrorEntry) (as' : List PlayAction) → as' ≡ [] → laid h (es ++ e ∷ []) as' ≡ laid h es as' ++ entry_line e ∷ []
laid-entry h es e [] none = ap (λ ls. h ∷ ls)
    (append-nil (map entry_line (es ++ e ∷ [])) ∙ map-append entry_line es (e ∷ []) ∙ ap (λ ls. ls ++ entry_line e ∷ []) (sym (append-nil (map entry_line es))))
laid-entry h es e (a ∷ as') none = cc

laid-action : (h : List ℕ) (es : List ErrorEntry) (as' : List PlayAction) (a : PlayAction) → laid h es (as' ++ a ∷ []) ≡ laid h es as' ++ action_line a ∷ []
laid-action h es as' a = ap (λ ls. h ∷ ls)
    (ap (λ ls. map entry_line es ++ ls) (map-append action_line as' (a ∷ [])) ∙ sym (append_assoc (map entry_line es) (map action_line as') (action_line a ∷ [])))

lines_of_header : (p : Play) (words : List (List ℕ)) → IsHeader p words → text_lines p ≡ spaced words ∷ []
lines_of_header p words is =
    text_lines-laid p ∙ ap (λ ws. laid (spaced ws) p.errors p.actions) is.written ∙ ap (λ es. laid (spaced words) es p.actions) is.no_errors ∙ ap (laid (spaced words) []) is.no_actions

pub header_read : (line : List ℕ) (p : Play) → header_of (words_of line) ≡ Some p → Reads p (line ∷ [])
header_read line p found =
    let is = header_of-some (words_of line) p found in
    record { play = is.play; written = lines_of_header p (words_of line) is ∙ ap (λ l. l ∷ []) (joined_parts 32 line) }

-- ---- error lines

record IsEntryOf (nodes : ℕ) (e : ErrorEntry) (words : List (List ℕ)) : Type 0 where
  entry : IsEntry nodes e
  written : error_words e ≡ words

by_of-some : (nodes : ℕ) (text : List ℕ) (by : Option ℕ) → 1 ≤ nodes → nodes ≤ 32 → by_of nodes text ≡ Some by → IfSome by (λ n. n < nodes) × (by_text by ≡ text)
by_of-some nodes text by some few found = cases (bytes_eq text (codes "sender")) refl found
  where
    cases : (sender : Bool) → bytes_eq text (codes "sender") ≡ sender → (if sender then Some None else option_map Some (number_in 0 (nodes - 1) text)) ≡ Some by
        → IfSome by (λ n. n < nodes) × (by_text by ≡ text)
    cases true e found' =
        let same : None ≡ by = cc in
        let P : Option ℕ → Type 0 = λ o. IfSome o (λ n. n < nodes) × (by_text o ≡ text) in
        subst P same (tt, word_is text (codes "sender") e)
    cases false e found' =
        let number = map_some (number_in 0 (nodes - 1) text) Some by found' in
        let is : IsNumber 0 (nodes - 1) number.0 text = number_in-some 0 (nodes - 1) number.0 text (omega arith) number.1 in
        let P : Option ℕ → Type 0 = λ o. IfSome o (λ n. n < nodes) × (by_text o ≡ text) in
        subst P number.2 (omega (arith, is.range.1), is.written)

entry_in-some : (nodes : ℕ) (first count kind by bit : List ℕ) (e : ErrorEntry) → 1 ≤ nodes → nodes ≤ 32 → entry_in nodes first count kind by bit ≡ Some e
    → IsEntryOf nodes e (codes "error" ∷ first ∷ count ∷ kind ∷ by ∷ bit ∷ [])
unfolding entry_in
entry_in-some nodes first count kind by bit e some few found =
    let a = bind_some (number_in 1 (2 ^ 32) first) _ e found in
    let b = bind_some (number_in 1 (2 ^ 32) count) _ e a.2 in
    let c = bind_some (number_in 1 4 kind) _ e b.2 in
    let d = bind_some (by_of nodes by) _ e c.2 in
    let f = bind_some (number_in 0 1023 bit) _ e d.2 in
    let na : IsNumber 1 (2 ^ 32) a.0 first = number_in-some 1 (2 ^ 32) a.0 first (omega arith) a.1 in
    let nb : IsNumber 1 (2 ^ 32) b.0 count = number_in-some 1 (2 ^ 32) b.0 count (omega arith) b.1 in
    let nc : IsNumber 1 4 c.0 kind = number_in-some 1 4 c.0 kind (omega arith) c.1 in
    let nd = by_of-some nodes by d.0 some few d.1 in
    let nf : IsNumber 0 1023 f.0 bit = number_in-some 0 1023 f.0 bit (omega arith) f.1 in
    let g : ErrorEntry = record { first = a.0; count = b.0; kind = c.0; by = d.0; bit = f.0 } in
    let same : g ≡ e = let h = f.2 in cc in
    let P : ErrorEntry → Type 0 = λ x. IsEntryOf nodes x (codes "error" ∷ first ∷ count ∷ kind ∷ by ∷ bit ∷ []) in
    let is : P g = record {
      entry = record { first = na.range; count = nb.range; kind = nc.range; by = nd.0; bit = nf.range.1 };
      written = cc (na.written, nb.written, nc.written, nd.1, nf.written);
    } in
    subst P same is

no_action-nil : (actions : List PlayAction) → no_action actions ≡ true → actions ≡ []
no_action-nil [] none = refl
no_action-nil (a ∷ as') none = cc

with_entry-Reads : (p : Play) (e : ErrorEntry) (lines : List (List ℕ)) (words : List (List ℕ)) → Reads p lines → takes_entry p ≡ true → IsEntryOf p.nodes e words
    → Reads (with_entry p e) (lines ++ spaced words ∷ [])
with_entry-Reads p e lines words reads takes is =
    let both = and_parts (no_action p.actions) (nat_lt (length p.errors) 1024) takes in
    let none : p.actions ≡ [] = no_action-nil p.actions both.0 in
    let room : nat_lt (length p.errors) 1024 ≡ true = both.1 in
    let few : length p.errors < 1024 = grind (arith, nat_tests) in
    record {
      play = record {
        resolution = reads.play.resolution;
        rate = reads.play.rate;
        fd_rate = reads.play.fd_rate;
        nodes = reads.play.nodes;
        stop = reads.play.stop;
        few_errors = omega (arith, length-append p.errors (e ∷ []));
        errors = All-push (IsEntry p.nodes) p.errors e reads.play.errors is.entry;
        actions = reads.play.actions;
        rises = reads.play.rises;
      };
      written = text_lines-laid (with_entry p e) ∙ laid-entry (spaced (header_words p)) p.errors e p.actions none ∙ ap (λ ls. ls ++ entry_line e ∷ []) (sym (text_lines-laid p) ∙ reads.written)
          ∙ ap (λ ws. lines ++ spaced ws ∷ []) is.written;
    }

entry_read : (p q : Play) (lines : List (List ℕ)) (word first count kind by bit : List ℕ) → Reads p lines
    → (if bytes_eq word (codes "error") then then_entry p first count kind by bit else None) ≡ Some q
    → Reads q (lines ++ spaced (word ∷ first ∷ count ∷ kind ∷ by ∷ bit ∷ []) ∷ [])
entry_read p q lines word first count kind by bit reads found =
    let named = if_some (bytes_eq word (codes "error")) (then_entry p first count kind by bit) q found in
    let room = if_some (takes_entry p) (option_map (with_entry p) (entry_in p.nodes first count kind by bit)) q named.1 in
    let e = map_some (entry_in p.nodes first count kind by bit) (with_entry p) q room.1 in
    let is = entry_in-some p.nodes first count kind by bit e.0 reads.play.nodes.0 reads.play.nodes.1 e.1 in
    let P : Play → Type 0 = λ x. Reads x (lines ++ spaced (word ∷ first ∷ count ∷ kind ∷ by ∷ bit ∷ []) ∷ []) in
    let said : IsEntryOf p.nodes e.0 (word ∷ first ∷ count ∷ kind ∷ by ∷ bit ∷ []) =
    record { entry = is.entry; written = is.written ∙ ap (λ w. w ∷ first ∷ count ∷ kind ∷ by ∷ bit ∷ []) (word_is word (codes "error") named.0) } in
    subst P e.2 (with_entry-Reads p e.0 lines (word ∷ first ∷ count ∷ kind ∷ by ∷ bit ∷ []) reads room.0 said)

-- ---- action lines

record IsVerbOf (fd_rate : Option ℕ) (v : Verb) (words : List (List ℕ)) : Type 0 where
  verb : IsVerb fd_rate v
  written : verb_words v ≡ words

bare_verb-some : (fd_rate : Option ℕ) (word : List ℕ) (v : Verb) → bare_verb word ≡ Some v → IsVerbOf fd_rate v (word ∷ [])
bare_verb-some fd_rate word v found = by (bytes_eq word (codes "wake")) (bytes_eq word (codes "sleep")) (bytes_eq word (codes "keep")) (bytes_eq word (codes "discard")) refl refl refl refl found
  where
    by : (a b c d : Bool) → bytes_eq word (codes "wake") ≡ a → bytes_eq word (codes "sleep") ≡ b → bytes_eq word (codes "keep") ≡ c → bytes_eq word (codes "discard") ≡ d
        → (if a then Some Wake else if b then Some Sleep else if c then Some Keep else if d then Some Discard else None) ≡ Some v → IsVerbOf fd_rate v (word ∷ [])
    by true b c d ea eb ec ed found' = let e : Wake ≡ v = cc in let Q : Verb → Type 0 = λ x. IsVerbOf fd_rate x (word ∷ []) in
        subst Q e (record { verb = tt; written = ap (λ w. w ∷ []) (word_is word (codes "wake") ea) })
    by false true c d ea eb ec ed found' = let e : Sleep ≡ v = cc in let Q : Verb → Type 0 = λ x. IsVerbOf fd_rate x (word ∷ []) in
        subst Q e (record { verb = tt; written = ap (λ w. w ∷ []) (word_is word (codes "sleep") eb) })
    by false false true d ea eb ec ed found' = let e : Keep ≡ v = cc in let Q : Verb → Type 0 = λ x. IsVerbOf fd_rate x (word ∷ []) in
        subst Q e (record { verb = tt; written = ap (λ w. w ∷ []) (word_is word (codes "keep") ec) })
    by false false false true ea eb ec ed found' = let e : Discard ≡ v = cc in let Q : Verb → Type 0 = λ x. IsVerbOf fd_rate x (word ∷ []) in
        subst Q e (record { verb = tt; written = ap (λ w. w ∷ []) (word_is word (codes "discard") ed) })
    by false false false false ea eb ec ed found' = cc

sendable-some : (fd_rate : Option ℕ) (word text : List ℕ) (f : Frame) (v : Verb) → codes "send" ≡ word → Spells text f → sendable fd_rate f ≡ Some v → IsVerbOf fd_rate v (word ∷ text ∷ [])
sendable-some fd_rate word text f v same spells found = by (is_fd f.kind) (is_some fd_rate) refl refl found
  where
    by : (fd rate : Bool) → is_fd f.kind ≡ fd → is_some fd_rate ≡ rate → (if fd && not rate then None else Some (Send f)) ≡ Some v → IsVerbOf fd_rate v (word ∷ text ∷ [])
    by true false e r found' = cc
    by true true e r found' = let is : Send f ≡ v = cc in let Q : Verb → Type 0 = λ x. IsVerbOf fd_rate x (word ∷ text ∷ []) in
        subst Q is (record { verb = record { well_formed = spells.well_formed; bytes = spells.bytes; rate = λ fd. r }; written = rw (same, spells.spelled) refl })
    by false rate e r found' = let is : Send f ≡ v = cc in let Q : Verb → Type 0 = λ x. IsVerbOf fd_rate x (word ∷ text ∷ []) in
        subst Q is (record { verb = record { well_formed = spells.well_formed; bytes = spells.bytes; rate = λ fd. cc }; written = rw (same, spells.spelled) refl })

sent-some : (fd_rate : Option ℕ) (word text : List ℕ) (v : Verb) → sent fd_rate word text ≡ Some v → IsVerbOf fd_rate v (word ∷ text ∷ [])
sent-some fd_rate word text v found =
    let test = if_some (bytes_eq word (codes "send")) (option_and_then (sendable fd_rate) (frame_of text)) v found in
    let f = bind_some (frame_of text) (sendable fd_rate) v test.1 in
    sendable-some fd_rate word text f.0 v (word_is word (codes "send") test.0) (spells_from_frame_of text f.0 f.1) f.2

Rises-push : (last : ℕ) (as' : List PlayAction) (a : PlayAction) → Rises last as' → last_of last as' ≤ a.moment → Rises last (as' ++ a ∷ [])
Rises-push last [] a rises later = (later, tt)
Rises-push last (b ∷ bs) a rises later = (rises.0, Rises-push b.moment bs a rises.1 later)

with_action-Reads : (p : Play) (a : PlayAction) (lines : List (List ℕ)) (words : List (List ℕ)) → Reads p lines → IsAction p.nodes p.fd_rate a → last_of 0 p.actions ≤ a.moment → action_words a ≡ words
    → Reads (with_action p a) (lines ++ spaced words ∷ [])
with_action-Reads p a lines words reads is later written = record {
  play = record {
    resolution = reads.play.resolution;
    rate = reads.play.rate;
    fd_rate = reads.play.fd_rate;
    nodes = reads.play.nodes;
    stop = reads.play.stop;
    few_errors = reads.play.few_errors;
    errors = reads.play.errors;
    actions = All-push (IsAction p.nodes p.fd_rate) p.actions a reads.play.actions is;
    rises = Rises-push 0 p.actions a reads.play.rises later;
  };
  written = text_lines-laid (with_action p a) ∙ laid-action (spaced (header_words p)) p.errors p.actions a ∙ ap (λ ls. ls ++ action_line a ∷ []) (sym (text_lines-laid p) ∙ reads.written)
      ∙ ap (λ ws. lines ++ spaced ws ∷ []) written;
}

action_read : (p q : Play) (lines : List (List ℕ)) (moment node : List ℕ) (verb : Option Verb) (words : List (List ℕ)) → Reads p lines
    → ((v : Verb) → verb ≡ Some v → IsVerbOf p.fd_rate v words) → then_action p moment node verb ≡ Some q
    → Reads q (lines ++ spaced (moment ∷ node ∷ words) ∷ [])
unfolding action_in
action_read p q lines moment node verb words reads is found =
    let made = map_some (action_in (last_of 0 p.actions) p.nodes moment node verb) (with_action p) q found in
    let a = bind_some (number_in (last_of 0 p.actions) (2 ^ 62) moment) _ made.0 made.1 in
    let b = bind_some (number_in 0 (p.nodes - 1) node) _ made.0 a.2 in
    let v = bind_some verb _ made.0 b.2 in
    let na : IsNumber (last_of 0 p.actions) (2 ^ 62) a.0 moment = number_in-some (last_of 0 p.actions) (2 ^ 62) a.0 moment (omega arith) a.1 in
    let nb : IsNumber 0 (p.nodes - 1) b.0 node = number_in-some 0 (p.nodes - 1) b.0 node (omega (arith, reads.play.nodes.1)) b.1 in
    let vb = is v.0 v.1 in
    let x : PlayAction = record { moment = a.0; node = b.0; verb = v.0 } in
    let same : with_action p x ≡ q = let h : Some x ≡ Some made.0 = v.2 in let e : x ≡ made.0 = cc in ap (with_action p) e ∙ made.2 in
    let P : Play → Type 0 = λ y. Reads y (lines ++ spaced (moment ∷ node ∷ words) ∷ []) in
    subst P {x = with_action p x} same (with_action-Reads p x lines (moment ∷ node ∷ words) reads (record { moment = na.range.1; node = omega (arith, nb.range.1, reads.play.nodes.0); verb = vb.verb }) na.range.0
    (cc (na.written, nb.written, vb.written)))

words_read : (p q : Play) (lines : List (List ℕ)) (words : List (List ℕ)) → Reads p lines → with_words p words ≡ Some q → Reads q (lines ++ spaced words ∷ [])
words_read p q lines [] reads found = cc
words_read p q lines (a ∷ []) reads found = cc
words_read p q lines (a ∷ b ∷ []) reads found = cc
words_read p q lines (a ∷ b ∷ c ∷ []) reads found = action_read p q lines a b (bare_verb c) (c ∷ []) reads (bare_verb-some p.fd_rate c) found
words_read p q lines (a ∷ b ∷ c ∷ d ∷ []) reads found = action_read p q lines a b (sent p.fd_rate c d) (c ∷ d ∷ []) reads (sent-some p.fd_rate c d) found
words_read p q lines (a ∷ b ∷ c ∷ d ∷ e ∷ []) reads found = cc
words_read p q lines (a ∷ b ∷ c ∷ d ∷ e ∷ f ∷ []) reads found = entry_read p q lines a b c d e f reads found
words_read p q lines (a ∷ b ∷ c ∷ d ∷ e ∷ f ∷ g ∷ rest) reads found = cc

-- what a line gives has that line behind the lines so far
pub step_read : (p q : Play) (lines : List (List ℕ)) (line : List ℕ) → Reads p lines → step p line ≡ Some q → Reads q (lines ++ line ∷ [])
step_read p q lines line reads found =
    let P : List ℕ → Type 0 = λ l. Reads q (lines ++ l ∷ []) in
    subst P (joined_parts 32 line) (words_read p q lines (words_of line) reads found)
