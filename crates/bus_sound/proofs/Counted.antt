-- Counters stay in their ranges.
use Rattle.std.proofs.Common.{◌≡◌, ℕ, ◌+◌, ◌-◌, ◌≤◌, Bool, true, false, if◌then◌else◌, arith}
use Rattle.std.specs.Prelude.{nat_lt}
use Rattle.std.proofs.lemmas.Bool.{ltb-false}
use Rattle.bus_specs.specs.Counters.{Counters, Role, Sender, LoneSender, Primary, Secondary, Happening, Sent, Received, Nothing, Missed, count, failed, is_off, is_active}

pub on-tec : (c : Counters) → is_off c ≡ false → c.tec ≤ 255
on-tec c h = ltb-false 255 c.tec h

lone-tec : (t : Bool) (n : ℕ) → n ≤ 255 → (if t then n + 8 else n) ≤ 263
lone-tec true n h = omega (arith, h)
lone-tec false n h = omega (arith, h)

failed-tec : (c : Counters) (r : Role) → c.tec ≤ 255 → (failed c r).tec ≤ 263
failed-tec c Sender h = omega (arith, h)
failed-tec c LoneSender h = lone-tec (is_active c) c.tec h
failed-tec c Primary h = omega (arith, h)
failed-tec c Secondary h = omega (arith, h)

-- a node that is not off
pub count-tec : (c : Counters) (x : Happening) → c.tec ≤ 255 → (count c x).tec ≤ 263
count-tec c Nothing h = omega (arith, h)
count-tec c Sent h = omega (arith, h)
count-tec c Received h = omega (arith, h)
count-tec c (Missed r) h = failed-tec c r h

received-rec : (t : Bool) (n : ℕ) → n ≤ 255 → (if t then 119 else n - 1) ≤ 255
received-rec true n h = omega arith
received-rec false n h = omega (arith, h)

failed-rec : (c : Counters) (r : Role) → c.rec ≤ 255 → (failed c r).rec ≤ 255
failed-rec c Sender h = h
failed-rec c LoneSender h = h
failed-rec c Primary h = omega arith
failed-rec c Secondary h = omega arith

pub count-rec : (c : Counters) (x : Happening) → c.rec ≤ 255 → (count c x).rec ≤ 255
count-rec c Nothing h = h
count-rec c Sent h = h
count-rec c Received h = received-rec (nat_lt 127 c.rec) c.rec h
count-rec c (Missed r) h = failed-rec c r h
