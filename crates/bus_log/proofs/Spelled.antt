-- What a text is read as has that text.
use Rattle.std.proofs.Common.{◌≡◌, ℕ, ◌^◌, ◌&&◌, ◌||◌, ◌==◌, Bool, true, false, List, [], ◌∷◌, ◌++◌, Option, Some, None, refl, sym, ap, subst, ◌∙◌, arith}
use Rattle.std.specs.Prelude.{nat_lt, decimal, codes, bytes_eq, option_and_then, option_map, if◌then◌else◌}
use Rattle.std.proofs.lemmas.Bool.{and_from}
use Rattle.std.proofs.lemmas.Option.{same_Some}
use Rattle.operation_specs.specs.Operation.{Declared}
use Rattle.frame_specs.specs.Frame.{Frame}
use Rattle.frame_specs.specs.FrameText.{frame_text}
use Rattle.frame_specs.specs.FrameReading.{frame_of, cut}
use Rattle.frame_specs.proofs.FrameReadingLaws.{cut-spelled}
use Rattle.log_specs.specs.Line as log
use Rattle.log_specs.specs.Line.{Line, On, Down, Over, End, Told, Cause, said, words, joined, line_text, level_text, cause_text, bytes_text, numbers_text}
use Rattle.plain_text.specs.Parts.{parts}
use Rattle.log_lines.specs.IsLine.{is_within, is_told, all_below, frame_fits, told_fits, IsLine, Fits}
use Rattle.bus_log.specs.Spelling.{Spells}
use Rattle.bus_log.specs.Verbs.{verbs, verb_text, verb_named}
use Rattle.bus_log.specs.Reading.{word32, word64, bytes_in, id_in, numbers_in, levels, causes, cause_named, level_named, bare, one, lost_in, wake_in, notice_in, done_in, fail_in, told_by, told_in, status_of, end_in, bus_line_in, node_line_in, line_in, ended, line_of_text}
use Rattle.plain_text.specs.Decimal.{number_in}
use Rattle.bus_log.specs.declared.verb.Verb.{Verb}
use Rattle.bus_log.specs.declared.verb.Verb.TheVariants as verb
use Rattle.plain_text.proofs.Options.{bind_some, map_some, if_some}
use Rattle.plain_text.proofs.Decimals.{IsNumber, number_in-some}
use Rattle.plain_text.proofs.Separators.{joined_parts}
use Rattle.bus_log.proofs.Fields.{word_is, is_within-from, below_limit, named-some, numbers_in-some, bytes_in-some, id_in-some, frame_of-some}

-- what is told has this word, and these words behind the node
record IsSaid (told : Told) (word : List ℕ) (rest : List (List ℕ)) : Type 0 where
  is : is_told told ≡ true
  fits : told_fits told ≡ true
  word_is : (said told).0 ≡ word
  rest_is : (said told).1 ≡ rest

-- ---- what is told by one word

one_said : {A : Type 0} (make : A → Told) (read : List ℕ → Option A) (word : List ℕ)
    → ((w : List ℕ) (a : A) → read w ≡ Some a → IsSaid (make a) word (w ∷ []))
    → (rest : List (List ℕ)) (told : Told) → option_map make (one read rest) ≡ Some told → IsSaid told word rest
one_said make read word good [] told found = cc found
one_said make read word good (w ∷ []) told found =
    let a = map_some (read w) make told found in
    let P : Told → Type 0 = λ t. IsSaid t word (w ∷ []) in
    subst P a.2 (good w a.0 a.1)
one_said make read word good (w ∷ x ∷ ws) told found = cc found

bare_said : (made : Told) (word : List ℕ) → IsSaid made word [] → (rest : List (List ℕ)) (told : Told) → bare made rest ≡ Some told
    → IsSaid told word rest
bare_said made word good [] told found =
    let same : made ≡ told = same_Some made told found in
    let P : Told → Type 0 = λ t. IsSaid t word [] in
    subst P same good
bare_said made word good (w ∷ ws) told found = cc found

small_number : (low high n : ℕ) (text : List ℕ) → IsNumber low high n text → is_within low high n ≡ true
small_number low high n text is = is_within-from low high n is.range.0 is.range.1

word_number : (n : ℕ) (text : List ℕ) → IsNumber 0 word32 n text → nat_lt n (2 ^ 32) ≡ true
word_number n text is = below_limit n (2 ^ 32) (omega (arith, is.range.1))

long_number : (n : ℕ) (text : List ℕ) → IsNumber 0 word64 n text → nat_lt n (2 ^ 64) ≡ true
long_number n text is = below_limit n (2 ^ 64) (omega (arith, is.range.1))

one_word : (v w : List ℕ) → v ≡ w → v ∷ [] ≡ w ∷ []
one_word v w same = ap (λ x. x ∷ []) same

req_said : (w : List ℕ) (f : Frame) → frame_of w ≡ Some f → IsSaid (log.Req f) (codes "req") (w ∷ [])
req_said w f read = let is = frame_of-some w f read in record {
  is = refl;
  fits = is.fits;
  word_is = refl;
  rest_is = one_word (frame_text f)
      w is.written;
}

full_said : (w : List ℕ) (f : Frame) → frame_of w ≡ Some f → IsSaid (log.Full f) (codes "full") (w ∷ [])
full_said w f read = let is = frame_of-some w f read in record {
  is = refl;
  fits = is.fits;
  word_is = refl;
  rest_is = one_word
      (frame_text f) w is.written;
}

drop_said : (w : List ℕ) (f : Frame) → frame_of w ≡ Some f → IsSaid (log.Drop f) (codes "drop") (w ∷ [])
drop_said w f read = let is = frame_of-some w f read in record {
  is = refl;
  fits = is.fits;
  word_is = refl;
  rest_is = one_word
      (frame_text f) w is.written;
}

start_said : (w : List ℕ) (f : Frame) → frame_of w ≡ Some f → IsSaid (log.Start f) (codes "start") (w ∷ [])
start_said w f read = let is = frame_of-some w f read in record
    { is = refl; fits = is.fits; word_is = refl; rest_is = one_word (frame_text f) w is.written }

rate_said : (w : List ℕ) (v : ℕ) → number_in 0 word32 w ≡ Some v → IsSaid (log.Rate v) (codes "rate") (w ∷ [])
rate_said w v read =
    let is = number_in-some 0 word32 v w (omega arith) read in
    record { is = refl; fits = word_number v w is; word_is = refl; rest_is = one_word (decimal v) w is.written }

fd_rate_said : (w : List ℕ) (v : ℕ) → number_in 0 word32 w ≡ Some v → IsSaid (log.FdRate v) (codes "fdrate") (w ∷ [])
fd_rate_said w v read =
    let is = number_in-some 0 word32 v w (omega arith) read in
    record { is = refl; fits = word_number v w is; word_is = refl; rest_is = one_word (decimal v) w is.written }

status_said : (w : List ℕ) (l : Declared) → level_named w ≡ Some l → IsSaid (log.Status l) (codes "status") (w ∷ [])
status_said w l read = record {
  is = refl;
  fits = refl;
  word_is = refl;
  rest_is = one_word (level_text l) w
      (named-some level_text levels w l read);
}

state_said : (w : List ℕ) (l : Declared) → level_named w ≡ Some l → IsSaid (log.State l) (codes "state") (w ∷ [])
state_said w l read = record {
  is = refl;
  fits = refl;
  word_is = refl;
  rest_is = one_word (level_text l) w
      (named-some level_text levels w l read);
}

format_said : (w h : List ℕ) → bytes_in 0 w ≡ Some h → IsSaid (log.FormatError h) (codes "ferr") (w ∷ [])
format_said w h read =
    let are = bytes_in-some 0 w h (omega arith) read in
    record { is = are.counted; fits = are.small; word_is = refl; rest_is = one_word (bytes_text h) w are.written }

bad_said : (w h : List ℕ) → bytes_in 1 w ≡ Some h → IsSaid (log.Bad h) (codes "bad") (w ∷ [])
bad_said w h read =
    let are = bytes_in-some 1 w h (omega arith) read in
    record { is = are.counted; fits = are.small; word_is = refl; rest_is = one_word (bytes_text h) w are.written }

hurt_said : (w : List ℕ) (k : ℕ) → number_in 1 4 w ≡ Some k → IsSaid (log.Hurt k) (codes "hurt") (w ∷ [])
hurt_said w k read =
    let is = number_in-some 1 4 k w (omega arith) read in
    record { is = small_number 1 4 k w is; fits = refl; word_is = refl; rest_is = one_word (decimal k) w is.written }

-- ---- what is told by several words

two_words : (v w : List ℕ) (x y : List ℕ) → v ≡ w → x ≡ y → v ∷ x ∷ [] ≡ w ∷ y ∷ []
two_words v w x y first second = ap (λ a. a ∷ x ∷ []) first ∙ ap (λ a. w ∷ a ∷ []) second

three_words : (u v w x y z : List ℕ) → u ≡ x → v ≡ y → w ≡ z → u ∷ v ∷ w ∷ [] ≡ x ∷ y ∷ z ∷ []
three_words u v w x y z first second third = ap (λ a. a ∷ v ∷ w ∷ []) first ∙ ap (λ a. x ∷ a ∷ w ∷ []) second
    ∙ ap (λ a. x ∷ y ∷ a ∷ []) third

kept_said : (f w : List ℕ) (told : Told) → bytes_eq w (codes "keep") ≡ true → option_map log.LostKept (frame_of f) ≡ Some told
    → IsSaid told (codes "lost") (f ∷ w ∷ [])
kept_said f w told same found =
    let a = map_some (frame_of f) log.LostKept told found in
    let is = frame_of-some f a.0 a.1 in
    let P : Told → Type 0 = λ t. IsSaid t (codes "lost") (f ∷ w ∷ []) in
    let said' : P (log.LostKept a.0) = record {
      is = refl;
      fits = is.fits;
      word_is = refl;
      rest_is = two_words (frame_text a.0) f
          (codes "keep") w is.written (sym (word_is w (codes "keep") same));
    } in
    subst P a.2 said'

gone_said : (f w : List ℕ) (told : Told) → bytes_eq w (codes "gone") ≡ true → option_map log.LostGone (frame_of f) ≡ Some told
    → IsSaid told (codes "lost") (f ∷ w ∷ [])
gone_said f w told same found =
    let a = map_some (frame_of f) log.LostGone told found in
    let is = frame_of-some f a.0 a.1 in
    let P : Told → Type 0 = λ t. IsSaid t (codes "lost") (f ∷ w ∷ []) in
    let said' : P (log.LostGone a.0) = record {
      is = refl;
      fits = is.fits;
      word_is = refl;
      rest_is = two_words (frame_text a.0) f
          (codes "gone") w is.written (sym (word_is w (codes "gone") same));
    } in
    subst P a.2 said'

lost_said : (rest : List (List ℕ)) (told : Told) → lost_in rest ≡ Some told → IsSaid told (codes "lost") rest
lost_said [] told found = cc found
lost_said (f ∷ []) told found = cc found
lost_said (f ∷ w ∷ []) told found = by (bytes_eq w (codes "keep")) (bytes_eq w (codes "gone")) refl refl found
  where
    by : (keep gone : Bool) → bytes_eq w (codes "keep") ≡ keep → bytes_eq w (codes "gone") ≡ gone
        → (if keep then option_map log.LostKept (frame_of f) else if gone then option_map log.LostGone (frame_of f) else None) ≡ Some told
        → IsSaid told (codes "lost") (f ∷ w ∷ [])
    by true gone e g found' = kept_said f w told e found'
    by false true e g found' = gone_said f w told g found'
    by false false e g found' = cc found'
lost_said (f ∷ w ∷ x ∷ ws) told found = cc found

wake_said : (w : List ℕ) (told : Told) → wake_in w ≡ Some told → IsSaid told (codes "told") (w ∷ [])
wake_said w told found =
    let test = if_some (bytes_eq w (codes "wake")) (Some log.ToldWake) told found in
    let same : log.ToldWake ≡ told = same_Some log.ToldWake told test.1 in
    let P : Told → Type 0 = λ t. IsSaid t (codes "told") (w ∷ []) in
    let said' : P log.ToldWake = record {
      is = refl;
      fits = refl;
      word_is = refl;
      rest_is = one_word (codes "wake") w
          (sym (word_is w (codes "wake") test.0));
    } in
    subst P same said'

told_lost_said : (w text : List ℕ) (told : Told) → bytes_eq w (codes "lost") ≡ true → option_map log.ToldLost (id_in text) ≡ Some told
    → IsSaid told (codes "told") (w ∷ text ∷ [])
told_lost_said w text told same found =
    let a = map_some (id_in text) log.ToldLost told found in
    let is = id_in-some text a.0 a.1 in
    let P : Told → Type 0 = λ t. IsSaid t (codes "told") (w ∷ text ∷ []) in
    let said' : P (log.ToldLost a.0) = record {
      is = refl;
      fits = below_limit a.0 (2 ^ 32) is.small;
      word_is = refl;
      rest_is = two_words (codes "lost") w _ text (sym (word_is w (codes "lost") same)) is.written;
    } in
    subst P a.2 said'

told_format_said : (w text : List ℕ) (told : Told) → bytes_eq w (codes "format") ≡ true
    → option_map log.ToldFormat (bytes_in 1 text) ≡ Some told → IsSaid told (codes "told") (w ∷ text ∷ [])
told_format_said w text told same found =
    let a = map_some (bytes_in 1 text) log.ToldFormat told found in
    let are = bytes_in-some 1 text a.0 (omega arith) a.1 in
    let P : Told → Type 0 = λ t. IsSaid t (codes "told") (w ∷ text ∷ []) in
    let said' : P (log.ToldFormat a.0) = record {
      is = are.counted;
      fits = are.small;
      word_is = refl;
      rest_is = two_words (codes "format") w (bytes_text a.0) text (sym (word_is w (codes "format") same)) are.written;
    } in
    subst P a.2 said'

notice_said : (rest : List (List ℕ)) (told : Told) → notice_in rest ≡ Some told → IsSaid told (codes "told") rest
notice_said [] told found = cc found
notice_said (w ∷ []) told found = wake_said w told found
notice_said (w ∷ text ∷ []) told found = by (bytes_eq w (codes "lost")) (bytes_eq w (codes "format")) refl refl found
  where
    by : (lost format : Bool) → bytes_eq w (codes "lost") ≡ lost → bytes_eq w (codes "format") ≡ format
        → (if lost then option_map log.ToldLost (id_in text) else if format then option_map log.ToldFormat (bytes_in 1 text) else None)
        ≡ Some told
        → IsSaid told (codes "told") (w ∷ text ∷ [])
    by true format e g found' = told_lost_said w text told e found'
    by false true e g found' = told_format_said w text told g found'
    by false false e g found' = cc found'
notice_said (w ∷ text ∷ x ∷ ws) told found = cc found

done_said : (rest : List (List ℕ)) (told : Told) → done_in rest ≡ Some told → IsSaid told (codes "done") rest
done_said [] told found = cc found
done_said (f ∷ []) told found = cc found
done_said (f ∷ w ∷ []) told found = cc found
done_said (f ∷ w ∷ ns ∷ []) told found =
    let test = if_some (bytes_eq w (codes "to")) (option_and_then (λ frame. option_map (log.Done frame) (numbers_in ns)) (frame_of f)) told
    found in
    let frame = bind_some (frame_of f) (λ frame. option_map (log.Done frame) (numbers_in ns)) told test.1 in
    let receivers = map_some (numbers_in ns) (log.Done frame.0) told frame.2 in
    let is = frame_of-some f frame.0 frame.1 in
    let are = numbers_in-some ns receivers.0 receivers.1 in
    let P : Told → Type 0 = λ t. IsSaid t (codes "done") (f ∷ w ∷ ns ∷ []) in
    let said' : P (log.Done frame.0 receivers.0) = record {
      is = are.rises;
      fits = and_from (frame_fits frame.0) (all_below (2 ^ 32) receivers.0) is.fits are.small;
      word_is = refl;
      rest_is = three_words (frame_text frame.0) (codes "to") (numbers_text receivers.0) f w ns is.written
          (sym (word_is w (codes "to") test.0)) are.written;
    } in
    subst P receivers.2 said'
done_said (f ∷ w ∷ ns ∷ x ∷ ws) told found = cc found

fail_said : (rest : List (List ℕ)) (told : Told) → fail_in rest ≡ Some told → IsSaid told (codes "fail") rest
fail_said [] told found = cc found
fail_said (f ∷ []) told found = cc found
fail_said (f ∷ k ∷ []) told found = cc found
fail_said (f ∷ k ∷ m ∷ []) told found =
    let frame = bind_some (frame_of f) _ told found in
    let kind = bind_some (number_in 1 5 k) _ told frame.2 in
    let by = bind_some (number_in 0 word32 m) _ told kind.2 in
    let is = frame_of-some f frame.0 frame.1 in
    let kind_is = number_in-some 1 5 kind.0 k (omega arith) kind.1 in
    let by_is = number_in-some 0 word32 by.0 m (omega arith) by.1 in
    let same : log.Fail frame.0 kind.0 by.0 ≡ told = same_Some (log.Fail frame.0 kind.0 by.0) told by.2 in
    let P : Told → Type 0 = λ t. IsSaid t (codes "fail") (f ∷ k ∷ m ∷ []) in
    let said' : P (log.Fail frame.0 kind.0 by.0) = record {
      is = small_number 1 5 kind.0 k kind_is;
      fits = and_from (frame_fits frame.0) (nat_lt by.0 (2 ^ 32)) is.fits (word_number by.0 m by_is);
      word_is = refl;
      rest_is = three_words (frame_text frame.0) (decimal kind.0) (decimal by.0) f k m is.written kind_is.written by_is.written;
    } in
    subst P same said'
fail_said (f ∷ k ∷ m ∷ x ∷ ws) told found = cc found

told_by-some : (v : Verb) (rest : List (List ℕ)) (told : Told) → told_by v rest ≡ Some told → IsSaid told (verb_text v) rest
told_by-some verb.Req rest told found = one_said log.Req frame_of (codes "req") req_said rest told found
told_by-some verb.Full rest told found = one_said log.Full frame_of (codes "full") full_said rest told found
told_by-some verb.Drop rest told found = one_said log.Drop frame_of (codes "drop") drop_said rest told found
told_by-some verb.Start rest told found = one_said log.Start frame_of (codes "start") start_said rest told found
told_by-some verb.Keep rest told found = bare_said log.Keep (codes "keep") record { is = refl; fits = refl; word_is = refl; rest_is = refl }
    rest told found
told_by-some verb.Discard rest told found = bare_said log.Discard (codes "discard") record
    { is = refl; fits = refl; word_is = refl; rest_is = refl } rest told found
told_by-some verb.Wake rest told found = bare_said log.Wake (codes "wake") record { is = refl; fits = refl; word_is = refl; rest_is = refl }
    rest told found
told_by-some verb.Sleep rest told found = bare_said log.Sleep (codes "sleep") record
    { is = refl; fits = refl; word_is = refl; rest_is = refl } rest told found
told_by-some verb.Back rest told found = bare_said log.Back (codes "back") record { is = refl; fits = refl; word_is = refl; rest_is = refl }
    rest told found
told_by-some verb.Rate rest told found = one_said log.Rate (number_in 0 word32) (codes "rate") rate_said rest told found
told_by-some verb.FdRate rest told found = one_said log.FdRate (number_in 0 word32) (codes "fdrate") fd_rate_said rest told found
told_by-some verb.Status rest told found = one_said log.Status level_named (codes "status") status_said rest told found
told_by-some verb.State rest told found = one_said log.State level_named (codes "state") state_said rest told found
told_by-some verb.FormatError rest told found = one_said log.FormatError (bytes_in 0) (codes "ferr") format_said rest told found
told_by-some verb.Bad rest told found = one_said log.Bad (bytes_in 1) (codes "bad") bad_said rest told found
told_by-some verb.Told rest told found = notice_said rest told found
told_by-some verb.Lost rest told found = lost_said rest told found
told_by-some verb.Done rest told found = done_said rest told found
told_by-some verb.Fail rest told found = fail_said rest told found
told_by-some verb.Hurt rest told found = one_said log.Hurt (number_in 1 4) (codes "hurt") hurt_said rest told found

told_in-some : (word : List ℕ) (rest : List (List ℕ)) (told : Told) → told_in word rest ≡ Some told → IsSaid told word rest
told_in-some word rest told found =
    let v = bind_some (verb_named word) (λ v. told_by v rest) told found in
    let P : List ℕ → Type 0 = λ w. IsSaid told w rest in
    subst P (named-some verb_text verbs word v.0 v.1) (told_by-some v.0 rest told v.2)

-- ---- lines

-- a line of the log and its words
record IsLaid (line : Line) (ws : List (List ℕ)) : Type 0 where
  is : IsLine line
  fits : Fits line
  written : words line ≡ ws

four_words : (moment bus word node a b c d : List ℕ) (rest xs : List (List ℕ)) → moment ≡ a → bus ≡ b → word ≡ c → node ≡ d → rest ≡ xs
    → moment ∷ bus ∷ word ∷ node ∷ rest ≡ a ∷ b ∷ c ∷ d ∷ xs
four_words moment bus word node a b c d rest xs e1 e2 e3 e4 e5 = rw (e1, e2, e3, e4, e5) refl

bus_line_laid : (t : ℕ) (moment bus word : List ℕ) (n : ℕ) (node : List ℕ) (rest : List (List ℕ)) (line : Line) → IsNumber 0 word64 t moment
    → IsNumber 0 word32 n node
    → bus_line_in t bus word n rest ≡ Some line → IsLaid line (moment ∷ bus ∷ word ∷ node ∷ rest)
bus_line_laid t moment bus word n node rest line tm nm found =
    let b = bind_some (number_in 0 word32 bus) _ line found in
    let told = bind_some (told_in word rest) _ line b.2 in
    let bm = number_in-some 0 word32 b.0 bus (omega arith) b.1 in
    let s = told_in-some word rest told.0 told.1 in
    let same : On t b.0 n told.0 ≡ line = same_Some (On t b.0 n told.0) line told.2 in
    let P : Line → Type 0 = λ l. IsLaid l (moment ∷ bus ∷ word ∷ node ∷ rest) in
    let laid : P (On t b.0 n told.0) = record {
      is = s.is;
      fits = and_from (nat_lt t (2 ^ 64) && nat_lt b.0 (2 ^ 32) && nat_lt n (2 ^ 32)) (told_fits told.0)
          (and_from (nat_lt t (2 ^ 64) && nat_lt b.0 (2 ^ 32)) (nat_lt n (2 ^ 32))
          (and_from (nat_lt t (2 ^ 64)) (nat_lt b.0 (2 ^ 32)) (long_number t moment tm) (word_number b.0 bus bm))
          (word_number n node nm)) s.fits;
      written = four_words (decimal t) (decimal b.0) (said told.0).0 (decimal n) moment bus word node (said told.0).1 rest tm.written
          bm.written s.word_is nm.written s.rest_is;
    } in
    subst P same laid

down_laid : (t : ℕ) (moment bus word : List ℕ) (n : ℕ) (node : List ℕ) (rest : List (List ℕ)) (line : Line) → IsNumber 0 word64 t moment
    → IsNumber 0 word32 n node → codes "-" ≡ bus → codes "down" ≡ word
    → option_map (Down t n) (one cause_named rest) ≡ Some line → IsLaid line (moment ∷ bus ∷ word ∷ node ∷ rest)
down_laid t moment bus word n node [] line tm nm dash down found = cc found
down_laid t moment bus word n node (w ∷ []) line tm nm dash down found =
    let cause = map_some (cause_named w) (Down t n) line found in
    let P : Line → Type 0 = λ l. IsLaid l (moment ∷ bus ∷ word ∷ node ∷ w ∷ []) in
    let laid : P (Down t n cause.0) = record {
      is = refl;
      fits = and_from (nat_lt t (2 ^ 64)) (nat_lt n (2 ^ 32)) (long_number t moment tm) (word_number n node nm);
      written = four_words (decimal t) (codes "-") (codes "down") (decimal n) moment bus word node (cause_text cause.0 ∷ []) (w ∷ [])
          tm.written dash down nm.written
          (one_word (cause_text cause.0) w (named-some cause_text causes w cause.0 cause.1));
    } in
    subst P cause.2 laid
down_laid t moment bus word n node (w ∷ x ∷ ws) line tm nm dash down found = cc found

over_laid : (t : ℕ) (moment bus word : List ℕ) (n : ℕ) (node : List ℕ) (rest : List (List ℕ)) (line : Line) → IsNumber 0 word64 t moment
    → IsNumber 0 word32 n node → codes "-" ≡ bus → codes "over" ≡ word
    → bare (Over t n) rest ≡ Some line → IsLaid line (moment ∷ bus ∷ word ∷ node ∷ rest)
over_laid t moment bus word n node [] line tm nm dash over found =
    let same : Over t n ≡ line = same_Some (Over t n) line found in
    let P : Line → Type 0 = λ l. IsLaid l (moment ∷ bus ∷ word ∷ node ∷ []) in
    let laid : P (Over t n) = record {
      is = refl;
      fits = and_from (nat_lt t (2 ^ 64)) (nat_lt n (2 ^ 32)) (long_number t moment tm) (word_number n node nm);
      written = four_words (decimal t) (codes "-") (codes "over") (decimal n) moment bus word node [] [] tm.written dash over nm.written
          refl;
    } in
    subst P same laid
over_laid t moment bus word n node (w ∷ ws) line tm nm dash over found = cc found

node_line_laid : (moment bus word node : List ℕ) (rest : List (List ℕ)) (line : Line) → node_line_in moment bus word node rest ≡ Some line
    → IsLaid line (moment ∷ bus ∷ word ∷ node ∷ rest)
node_line_laid moment bus word node rest line found =
    let t = bind_some (number_in 0 word64 moment) _ line found in
    let n = bind_some (number_in 0 word32 node) _ line t.2 in
    by t.0 n.0 (number_in-some 0 word64 t.0 moment (omega arith) t.1) (number_in-some 0 word32 n.0 node (omega arith) n.1)
    (bytes_eq bus (codes "-")) (bytes_eq word (codes "down")) (bytes_eq word (codes "over")) refl refl refl n.2
  where
    by : (t n : ℕ) → IsNumber 0 word64 t moment → IsNumber 0 word32 n node → (dash down over : Bool)
        → bytes_eq bus (codes "-") ≡ dash → bytes_eq word (codes "down") ≡ down → bytes_eq word (codes "over") ≡ over
        → (if dash then (if down then option_map (Down t n) (one cause_named rest) else if over then bare (Over t n) rest else None) else
        bus_line_in t bus word n rest) ≡ Some line
        → IsLaid line (moment ∷ bus ∷ word ∷ node ∷ rest)
    by t n tm nm true true over d w o found' = down_laid t moment bus word n node rest line tm nm (sym (word_is bus (codes "-") d))
        (sym (word_is word (codes "down") w)) found'
    by t n tm nm true false true d w o found' = over_laid t moment bus word n node rest line tm nm (sym (word_is bus (codes "-") d))
        (sym (word_is word (codes "over") o)) found'
    by t n tm nm true false false d w o found' = cc found'
    by t n tm nm false down over d w o found' = bus_line_laid t moment bus word n node rest line tm nm found'

end_laid : (word status events : List ℕ) (line : Line) → end_in word status events ≡ Some line → IsLaid line (word ∷ status ∷ events ∷ [])
end_laid word status events line found =
    let test = if_some (bytes_eq word (codes "end")) (option_and_then (λ s. option_map (End s) (number_in 0 word64 events))
    (option_and_then status_of (number_in 0 8 status))) line found in
    let s = bind_some (option_and_then status_of (number_in 0 8 status)) (λ s. option_map (End s) (number_in 0 word64 events)) line test.1
    in
    let n = bind_some (number_in 0 8 status) status_of s.0 s.1 in
    let e = map_some (number_in 0 word64 events) (End s.0) line s.2 in
    let allowed = if_some (n.0 == 0 || n.0 == 8) (Some n.0) s.0 n.2 in
    let same : n.0 ≡ s.0 = same_Some n.0 s.0 allowed.1 in
    let nm = number_in-some 0 8 n.0 status (omega arith) n.1 in
    let em = number_in-some 0 word64 e.0 events (omega arith) e.1 in
    let Q : ℕ → Type 0 = λ x. (x == 0 || x == 8) ≡ true in
    let P : Line → Type 0 = λ l. IsLaid l (word ∷ status ∷ events ∷ []) in
    let laid : P (End s.0 e.0) = record {
      is = subst Q same allowed.0;
      fits = long_number e.0 events em;
      written = three_words (codes "end") (decimal s.0) (decimal e.0) word status events (sym (word_is word (codes "end") test.0))
          (ap decimal (sym same) ∙ nm.written) em.written;
    } in
    subst P e.2 laid

line_laid : (ws : List (List ℕ)) (line : Line) → line_in ws ≡ Some line → IsLaid line ws
line_laid [] line found = cc found
line_laid (a ∷ []) line found = cc found
line_laid (a ∷ b ∷ []) line found = cc found
line_laid (a ∷ b ∷ c ∷ []) line found = end_laid a b c line found
line_laid (a ∷ b ∷ c ∷ d ∷ rest) line found = node_line_laid a b c d rest line found

ended-some : (front behind line : List ℕ) → ended (front, behind) ≡ Some line → (front ≡ line) × (behind ≡ [])
ended-some front [] line found = (same_Some front line found, refl)
ended-some front (b ∷ bs) line found = cc found

pub spells_from_line_of_text : (text : List ℕ) (line : Line) → line_of_text text ≡ Some line → Spells text line
unfolding line_of_text line_text
spells_from_line_of_text text line found =
    let p = bind_some (cut 10 text) _ line found in
    let front = bind_some (ended p.0) _ line p.2 in
    let parts' = ended-some p.0.0 p.0.1 front.0 front.1 in
    let laid = line_laid (parts 32 front.0) line front.2 in
    let whole = cut-spelled 10 text p.0 p.1 in
    let tail : text ≡ front.0 ++ 10 ∷ [] = whole ∙ ap (λ xs. xs ++ 10 ∷ p.0.1) parts'.0 ∙ ap (λ xs. front.0 ++ 10 ∷ xs) parts'.1 in
    record {
      is_line = laid.is;
      fits = laid.fits;
      spelled = ap (λ ws. joined 32 ws ++ 10 ∷ []) laid.written ∙ ap (λ xs. xs ++ 10 ∷ []) (joined_parts 32 front.0) ∙ sym tail;
    }
