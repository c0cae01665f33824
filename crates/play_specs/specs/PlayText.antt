-- The text of a play file: how a play is written. A header, then error lines, then action lines, each ended by a line feed.
use Rattle.std.specs.Prelude.{ℕ, List, [], ◌∷◌, ◌++◌, map, flat_map, unwrap_or, codes, decimal, Option, Some, None}
use Rattle.frame_specs.specs.FrameText.{frame_text}
use Rattle.log_specs.specs.Line.{joined}
use Rattle.bus_specs.specs.Bus.{ErrorEntry}
use Rattle.play_specs.specs.Play.{Verb, Send, Wake, Sleep, Keep, Discard, PlayAction, Play}

-- a line: words with one space between each two
abbrev pub spaced : List (List ℕ) → List ℕ
spaced words = joined 32 words

-- play RESOLUTION RATE FDRATE NODES STOP, with the FD rate 0 for none
abbrev pub header_words : Play → List (List ℕ)
header_words p = codes "play" ∷ decimal p.resolution ∷ decimal p.rate ∷ decimal (unwrap_or p.fd_rate 0) ∷ decimal p.nodes ∷ decimal p.stop ∷ []

abbrev pub by_text : Option ℕ → List ℕ
by_text None = codes "sender"
by_text (Some node) = decimal node

-- error FROM COUNT KIND BY BIT
abbrev pub error_words : ErrorEntry → List (List ℕ)
error_words e = codes "error" ∷ decimal e.first ∷ decimal e.count ∷ decimal e.kind ∷ by_text e.by ∷ decimal e.bit ∷ []

abbrev pub verb_words : Verb → List (List ℕ)
verb_words (Send f) = codes "send" ∷ frame_text f ∷ []
verb_words Wake = codes "wake" ∷ []
verb_words Sleep = codes "sleep" ∷ []
verb_words Keep = codes "keep" ∷ []
verb_words Discard = codes "discard" ∷ []

-- MOMENT NODE VERB
abbrev pub action_words : PlayAction → List (List ℕ)
action_words a = decimal a.moment ∷ decimal a.node ∷ verb_words a.verb

-- the lines of a play, without their line feeds
unfoldable pub text_lines : Play → List (List ℕ)
text_lines p = spaced (header_words p) ∷ (map (λ e. spaced (error_words e)) p.errors ++ map (λ a. spaced (action_words a)) p.actions)

-- each line with its line feed
abbrev pub ended : List (List ℕ) → List ℕ
ended lines = flat_map (λ line. line ++ 10 ∷ []) lines

abbrev pub play_text : Play → List ℕ
play_text p = ended (text_lines p)
