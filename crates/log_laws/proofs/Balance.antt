-- Counting along a log: what was accepted, and how many frames of a node wait.
use Rattle.std.proofs.Common.{◌≡◌, ℕ, ◌+◌, ◌<◌, ◌≤◌, ◌==◌, Bool, true, false, not, cond, if◌then◌else◌, List, [], ◌∷◌, ◌++◌, arith, refl, ap, ◌∙◌, sym, subst}
use Rattle.std.specs.Prelude.{◌&&◌, ◌||◌, count_by}
use Rattle.std.specs.List.{list_any}
use Rattle.std.proofs.lemmas.Bool.{and_parts, eqb-true}
use Rattle.std.proofs.lemmas.List.Sums.{sum_by-cons, sum_by_push}
use Rattle.frame_specs.specs.Frame.{Frame}
use Rattle.operation_specs.specs.Operation.{Declared, Active, Passive, Off}
use Rattle.bus_specs.specs.Bus.{Setup}
use Rattle.bus_specs.specs.Waits.{Waiting, is_meant, same_frame, without_first, without_node, at_level, heard}
use Rattle.log_specs.specs.Line.{Line, On, Down, Over, End, Told, Req, Full, Drop, Start, LostKept, LostGone, Keep, Discard, Wake, Sleep, ToldWake, Back, Rate, FdRate, Status, State, FormatError, Bad, ToldFormat, ToldLost, Done, Fail, Hurt}
use Rattle.play_specs.specs.Scenario.{Scenario, scenario_lines}
use Rattle.bus_sound.proofs.Lists.{count-filter}
use Rattle.log_laws.specs.Scenarios.{IsScenario}
use Rattle.log_laws.specs.Mirror.{Mirror, mirror_after, mirror_told, new_mirror}
use Rattle.log_laws.specs.Queues.{RequestsFit}
use Rattle.log_laws.specs.Accounts.{Account, new_account, one_if, account_level, account_told, account_line, account_after, NothingIsForgotten}
use Rattle.log_laws.proofs.Firsts.{frame-same}
use Rattle.log_laws.proofs.Lawful.{Lawful, LawfulTold, Within, follow}
use Rattle.log_laws.proofs.Followed.{lines-lawful}
use Rattle.log_laws.proofs.Laws.{at-line}

one-weight : (t : Bool) → one_if t ≡ cond t 1 0
one-weight true = refl
one-weight false = refl

-- the first that is meant is one
count-first : (p test : Waiting → Bool) (v : Waiting) (ws : List Waiting) → ((w : Waiting) → test w ≡ true → p w ≡ p v) → list_any test ws ≡ true
    → count_by p (without_first test ws) + one_if (p v) ≡ count_by p ws
count-first p test v [] k h = absurd cc
count-first p test v (w ∷ ws) k h = go (test w) refl h (λ i. count-first p test v ws k i)
  where
    go : (t : Bool) → test w ≡ t → (t || list_any test ws) ≡ true → (list_any test ws ≡ true → count_by p (without_first test ws) + one_if (p v) ≡ count_by p ws)
        → count_by p (if t then ws else w ∷ without_first test ws) + one_if (p v) ≡ count_by p (w ∷ ws)
    go true e h on = let s : one_if (p v) ≡ cond (p w) 1 0 = one-weight (p v) ∙ ap (λ t. cond t 1 0) (sym (k w e)) in
        omega (arith, s, sum_by-cons (λ x. cond (p x) 1 0) w ws)
    go false e h on = omega (arith, on h, sum_by-cons (λ x. cond (p x) 1 0) w ws, sum_by-cons (λ x. cond (p x) 1 0) w (without_first test ws))

fewer-first : (p test : Waiting → Bool) (ws : List Waiting) → count_by p (without_first test ws) ≤ count_by p ws
fewer-first p test [] = omega arith
fewer-first p test (w ∷ ws) = go (test w) (fewer-first p test ws)
  where
    go : (t : Bool) → count_by p (without_first test ws) ≤ count_by p ws → count_by p (if t then ws else w ∷ without_first test ws) ≤ count_by p (w ∷ ws)
    go true on = omega (arith, sum_by-cons (λ x. cond (p x) 1 0) w ws)
    go false on = omega (arith, on, sum_by-cons (λ x. cond (p x) 1 0) w ws, sum_by-cons (λ x. cond (p x) 1 0) w (without_first test ws))

-- those of a node, and the others
count-without : (p : Waiting → Bool) (node : ℕ) (ws : List Waiting) → count_by p (without_node node ws) + count_by (λ w. (w.node == node) && p w) ws ≡ count_by p ws
count-without p node [] = omega arith
count-without p node (w ∷ ws) = go (w.node == node) (count-without p node ws) (sum_by-cons (λ x. cond ((x.node == node) && p x) 1 0) w ws)
  where
    go : (t : Bool) → count_by p (without_node node ws) + count_by (λ x. (x.node == node) && p x) ws ≡ count_by p ws
        → count_by (λ x. (x.node == node) && p x) (w ∷ ws) ≡ cond (t && p w) 1 0 + count_by (λ x. (x.node == node) && p x) ws
        → count_by p (cond (not t) (w ∷ without_node node ws) (without_node node ws)) + count_by (λ x. (x.node == node) && p x) (w ∷ ws) ≡ count_by p (w ∷ ws)
    go true on h = omega (arith, on, h, sum_by-cons (λ x. cond (p x) 1 0) w ws)
    go false on h = omega (arith, on, h, sum_by-cons (λ x. cond (p x) 1 0) w ws, sum_by-cons (λ x. cond (p x) 1 0) w (without_node node ws))

module _ (meant : ℕ → Frame → Bool) where
  record Balanced (a : Account) (ws : List Waiting) : Type 0 where
    balance : a.accepted ≡ a.delivered + a.discarded + a.fallen + count_by (λ w. meant w.node w.frame) ws

  goes-one : (node : ℕ) (f : Frame) (ws : List Waiting) → list_any (is_meant node f) ws ≡ true
      → count_by (λ w. meant w.node w.frame) (without_first (is_meant node f) ws) + one_if (meant node f) ≡ count_by (λ w. meant w.node w.frame) ws
  goes-one node f ws h = count-first (λ w. meant w.node w.frame) (is_meant node f) (record { node = node; frame = f }) ws
      (λ w t. let both = and_parts (w.node == node) (same_frame w.frame f) t in
      let n : w.node ≡ node = eqb-true w.node node both.0 in
      let g : w.frame ≡ f = frame-same w.frame f both.1 in
      ap (λ x. meant x w.frame) n ∙ ap (meant node) g) h

  level-balanced : (a : Account) (ws : List Waiting) (node : ℕ) (l : Declared) → Balanced a ws
      → Balanced (account_level meant ws node a l) (at_level node ws l)
  level-balanced a ws node Active b = b
  level-balanced a ws node Passive b = b
  level-balanced a ws node Off b = let e = count-without (λ w. meant w.node w.frame) node ws in record { balance = omega (arith, e, b.balance) }

  told-balanced : (s : Setup) (m : Mirror) (t bus node : ℕ) (told : Told) (rest : List Line) (a : Account) → LawfulTold s m t bus node told rest → Balanced a m.waits
      → Balanced (account_told meant m.waits node a told) (heard node m.waits told)
  told-balanced s m t bus node (Req f) rest a l b = let e = sum_by_push (λ (w : Waiting). cond (meant w.node w.frame) 1 0) m.waits (record { node = node; frame = f }) in
      record { balance = omega (arith, e, one-weight (meant node f), b.balance) }
  told-balanced s m t bus node (LostGone f) rest a l b = record { balance = omega (arith, goes-one node f m.waits l, b.balance) }
  told-balanced s m t bus node (Done f ns) rest a l b = record { balance = omega (arith, goes-one node f m.waits (l.0).waits, b.balance) }
  told-balanced s m t bus node (State v) rest a l b = level-balanced a m.waits node v b
  told-balanced s m t bus node (Full f) rest a l b = b
  told-balanced s m t bus node (Drop f) rest a l b = b
  told-balanced s m t bus node (Start f) rest a l b = b
  told-balanced s m t bus node (LostKept f) rest a l b = b
  told-balanced s m t bus node Keep rest a l b = b
  told-balanced s m t bus node Discard rest a l b = b
  told-balanced s m t bus node Wake rest a l b = b
  told-balanced s m t bus node Sleep rest a l b = b
  told-balanced s m t bus node ToldWake rest a l b = b
  told-balanced s m t bus node Back rest a l b = b
  told-balanced s m t bus node (Rate v) rest a l b = b
  told-balanced s m t bus node (FdRate v) rest a l b = b
  told-balanced s m t bus node (Status v) rest a l b = b
  told-balanced s m t bus node (FormatError v) rest a l b = b
  told-balanced s m t bus node (Bad v) rest a l b = b
  told-balanced s m t bus node (ToldFormat v) rest a l b = b
  told-balanced s m t bus node (ToldLost v) rest a l b = b
  told-balanced s m t bus node (Fail f kind by) rest a l b = b
  told-balanced s m t bus node (Hurt kind) rest a l b = b

  line-balanced : (s : Setup) (m : Mirror) (line : Line) (rest : List Line) (a : Account) → Lawful s m line rest → Balanced a m.waits
      → Balanced (account_line s meant m.waits a line) (mirror_after s m line).waits
  line-balanced s m (On t bus node told) rest a l b = go (bus == s.number)
    where
      go : (u : Bool) → Balanced (if u then account_told meant m.waits node a told else a) (if u then mirror_told s m t node told else m).waits
      go true = told-balanced s m t bus node told rest a l b
      go false = b
  line-balanced s m (Down t node cause) rest a l b = let e = count-without (λ w. meant w.node w.frame) node m.waits in record { balance = omega (arith, e, b.balance) }
  line-balanced s m (Over t node) rest a l b = let e = count-without (λ w. meant w.node w.frame) node m.waits in record { balance = omega (arith, e, b.balance) }
  line-balanced s m (End status events) rest a l b = b

  lines-balanced : (s : Setup) (before rest : List Line) (m : Mirror) (a : Account) → Within s m (before ++ rest) [] → Balanced a m.waits
      → Balanced (account_after s meant m a before) (follow s m before).waits
  lines-balanced s [] rest m a w b = b
  lines-balanced s (line ∷ before) rest m a w b = lines-balanced s before rest (mirror_after s m line) (account_line s meant m.waits a line) w.1
      (line-balanced s m line ((before ++ rest) ++ []) a w.0 b)

pub nothing-forgotten : (k : ℕ) (p : Scenario) → IsScenario p → NothingIsForgotten p.setup p.nodes (scenario_lines k p)
nothing-forgotten k p h meant before rest e = (lines-balanced meant p.setup before rest (new_mirror p.nodes) new_account
    (subst (λ l. Within p.setup (new_mirror p.nodes) l []) e (lines-lawful p k h)) (record { balance = omega arith })).balance

-- no node has more than 256
record AtMost (ws : List Waiting) : Type 0 where
  most : (node : ℕ) → count_by (λ w. w.node == node) ws ≤ 256

push-most : (ws : List Waiting) (node : ℕ) (f : Frame) → AtMost ws → count_by (λ w. w.node == node) ws < 256 → AtMost (ws ++ record { node = node; frame = f } ∷ [])
push-most ws node f b l = record { most = λ n. by n (node == n) refl }
  where
    by : (n : ℕ) (t : Bool) → (node == n) ≡ t → count_by (λ w. w.node == n) (ws ++ record { node = node; frame = f } ∷ []) ≤ 256
    by n true e =
        let same : node ≡ n = eqb-true node n e in
        let room : count_by (λ (w : Waiting). w.node == n) ws < 256 = subst (λ x. count_by (λ (w : Waiting). w.node == x) ws < 256) same l in
        let push = sum_by_push (λ (w : Waiting). cond (w.node == n) 1 0) ws (record { node = node; frame = f }) in
        let weight : cond (node == n) 1 0 ≡ 1 = ap {B = ℕ} (λ v. cond v 1 0) e in
        omega (arith, room, push, weight)
    by n false e =
        let push = sum_by_push (λ (w : Waiting). cond (w.node == n) 1 0) ws (record { node = node; frame = f }) in
        let weight : cond (node == n) 1 0 ≡ 0 = ap {B = ℕ} (λ v. cond v 1 0) e in
        omega (arith, b.most n, push, weight)

without-most : (ws : List Waiting) (node : ℕ) → AtMost ws → AtMost (without_node node ws)
without-most ws node b = record { most = λ n. omega (arith, b.most n, count-filter (λ (w : Waiting). w.node == n) (λ w. not (w.node == node)) ws) }

first-most : (ws : List Waiting) (test : Waiting → Bool) → AtMost ws → AtMost (without_first test ws)
first-most ws test b = record { most = λ n. omega (arith, b.most n, fewer-first (λ w. w.node == n) test ws) }

level-most : (ws : List Waiting) (node : ℕ) (l : Declared) → AtMost ws → AtMost (at_level node ws l)
level-most ws node Active b = b
level-most ws node Passive b = b
level-most ws node Off b = without-most ws node b

told-most : (s : Setup) (m : Mirror) (t bus node : ℕ) (told : Told) (rest : List Line) → LawfulTold s m t bus node told rest → AtMost m.waits → AtMost (heard node m.waits told)
told-most s m t bus node (Req f) rest l b = push-most m.waits node f b (l.0).fewer
told-most s m t bus node (LostGone f) rest l b = first-most m.waits (is_meant node f) b
told-most s m t bus node (Done f ns) rest l b = first-most m.waits (is_meant node f) b
told-most s m t bus node (State v) rest l b = level-most m.waits node v b
told-most s m t bus node (Full f) rest l b = b
told-most s m t bus node (Drop f) rest l b = b
told-most s m t bus node (Start f) rest l b = b
told-most s m t bus node (LostKept f) rest l b = b
told-most s m t bus node Keep rest l b = b
told-most s m t bus node Discard rest l b = b
told-most s m t bus node Wake rest l b = b
told-most s m t bus node Sleep rest l b = b
told-most s m t bus node ToldWake rest l b = b
told-most s m t bus node Back rest l b = b
told-most s m t bus node (Rate v) rest l b = b
told-most s m t bus node (FdRate v) rest l b = b
told-most s m t bus node (Status v) rest l b = b
told-most s m t bus node (FormatError v) rest l b = b
told-most s m t bus node (Bad v) rest l b = b
told-most s m t bus node (ToldFormat v) rest l b = b
told-most s m t bus node (ToldLost v) rest l b = b
told-most s m t bus node (Fail f kind by) rest l b = b
told-most s m t bus node (Hurt kind) rest l b = b

line-most : (s : Setup) (m : Mirror) (line : Line) (rest : List Line) → Lawful s m line rest → AtMost m.waits → AtMost (mirror_after s m line).waits
line-most s m (On t bus node told) rest l b = go (bus == s.number)
  where
    go : (u : Bool) → AtMost (if u then mirror_told s m t node told else m).waits
    go true = told-most s m t bus node told rest l b
    go false = b
line-most s m (Down t node cause) rest l b = without-most m.waits node b
line-most s m (Over t node) rest l b = without-most m.waits node b
line-most s m (End status events) rest l b = b

lines-most : (s : Setup) (before rest : List Line) (m : Mirror) → Within s m (before ++ rest) [] → AtMost m.waits → AtMost (follow s m before).waits
lines-most s [] rest m w b = b
lines-most s (line ∷ before) rest m w b = lines-most s before rest (mirror_after s m line) w.1 (line-most s m line ((before ++ rest) ++ []) w.0 b)

pub requests-fit : (k : ℕ) (p : Scenario) → IsScenario p → RequestsFit p.setup p.nodes (scenario_lines k p)
requests-fit k p h = record {
  accepted = λ before rest t bus node f e. (at-line k p h before rest (On t bus node (Req f)) e).0;
  full = λ before rest t bus node f e. (at-line k p h before rest (On t bus node (Full f)) e).0;
  dropped = λ before rest t bus node f e. (at-line k p h before rest (On t bus node (Drop f)) e).0;
  at_most = λ before rest node e. (lines-most p.setup before rest (new_mirror p.nodes)
      (subst (λ l. Within p.setup (new_mirror p.nodes) l []) e (lines-lawful p k h)) (record { most = λ n. omega arith })).most node;
}
