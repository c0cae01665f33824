-- What a start takes down of those that lose. No public clause cites this file.
use Rattle.std.specs.Prelude.{ℕ, ◌+◌, ◌==◌, ◌&&◌, Bool, not, List, filter, find, map, option_map, Option}
use Rattle.std.specs.List.{list_any}
use Rattle.bus_specs.specs.Bus.{Bus, Member, Request}
use Rattle.bus_specs.specs.Start.{discards, loser_told, lost_by}
use Rattle.log_specs.specs.Line.{Line, On}
use Rattle.bus_medium.specs.declared.starting.Gone.{Gone}

abbrev pub gone_of : Request → Gone
gone_of r = record { node = r.node; number = r.number; id = r.frame.id }

-- those of other nodes
abbrev pub others : ℕ → List Request → List Request
others winner rs = filter (λ r. not (r.node == winner)) rs

-- their lines, and those that are discarded
abbrev pub loser_line : Bus → ℕ → Request → Line
loser_line b now r = On now b.setup.number r.node (loser_told b r)

abbrev pub loser_lines : Bus → ℕ → ℕ → List Request → List Line
loser_lines b now winner rs = map (loser_line b now) (others winner rs)

abbrev pub gone_from : Bus → ℕ → List Request → List Gone
gone_from b winner rs = map gone_of (filter (discards b) (others winner rs))

-- the identifier of what is gone of a node, and whether a request is gone
abbrev pub gone_id : List Gone → ℕ → Option ℕ
gone_id gone node = option_map (λ g. g.id) (find (λ g. g.node == node) gone)

abbrev pub is_among_gone : List Gone → Request → Bool
is_among_gone gone q = list_any (λ g. (q.node == g.node) && (q.number == g.number)) gone

-- a member with so many occurrences more, and a notice of its discarded request
abbrev pub member_behind : ℕ → ℕ → Option ℕ → Member → Member
member_behind spans due id m = record m { occurrences = option_map (λ n. n + spans) m.occurrences; lost = lost_by due m.lost id }

abbrev pub member_from : ℕ → ℕ → List Gone → Member → Member
member_from spans due gone m = member_behind spans due (gone_id gone m.node) m
