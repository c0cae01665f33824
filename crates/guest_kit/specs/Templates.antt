-- The documents of guests. No public clause cites this file.
use Rattle.std.specs.Prelude.{ℕ, ◌+◌, pos, Bool, true, List, if◌then◌else◌, codes}
use Rattle.std.specs.Ordering.{nat_cmp, match_ordering}
use Rattle.std.specs.Cmp.Lexicographic.{slice_cmp}
use Rattle.toml.specs.Data.{Data, Items, no_items, item, Members, no_members, member, string, integer, boolean, array, table}

-- members in the order of their keys, and one more
abbrev pub insert_member : List ℕ → Data → Members → Members
insert_member k d no_members = member k d no_members
insert_member k d (member l e ms) =
    match_ordering (slice_cmp nat_cmp k l) (member k d (member l e ms)) (member l d ms) (member l e (insert_member k d ms))

-- what names the module of a unit with this identifier
abbrev pub co_simulation : List ℕ → Members
co_simulation id = member (codes "hasEventMode") (boolean true) (member (codes "modelIdentifier") (string id) no_members)

abbrev pub with_identifier : List ℕ → Members → Members
with_identifier id document = insert_member (codes "CoSimulation") (table (co_simulation id)) document

-- the rows of variables, and of terminals
abbrev pub clock_row : List ℕ → ℕ → List ℕ → List ℕ → Data
clock_row name reference causality interval =
    table (member (codes "causality") (string causality) (member (codes "intervalVariability") (string interval)
    (member (codes "name") (string name) (member (codes "valueReference") (integer (pos reference)) no_members))))

abbrev pub binary_row : List ℕ → ℕ → List ℕ → ℕ → Data
binary_row name reference causality clock =
    table (member (codes "causality") (string causality) (member (codes "clocks") (array (item (integer (pos clock)) no_items))
    (member (codes "maxSize") (integer (pos 8192)) (member (codes "name") (string name)
    (member (codes "valueReference") (integer (pos reference)) no_members)))))

abbrev pub terminal_row : List ℕ → ℕ → Data
terminal_row name first =
    table (member (codes "Rx_Clock") (integer (pos first)) (member (codes "Rx_Data") (integer (pos (first + 1)))
    (member (codes "Tx_Clock") (integer (pos (first + 2))) (member (codes "Tx_Data") (integer (pos (first + 3)))
    (member (codes "name") (string name) no_members)))))

abbrev pub timer_rows : Bool → Items
timer_rows countdown =
    if countdown then item (clock_row (codes "Timer") 100 (codes "input") (codes "countdown")) no_items else no_items

abbrev pub clock_rows : Bool → Items → Items
clock_rows two others =
    item (clock_row (codes "CAN0.Rx_Clock") 0 (codes "input") (codes "triggered"))
    (item (clock_row (codes "CAN0.Tx_Clock") 2 (codes "output") (codes "triggered"))
    (if two then item (clock_row (codes "CAN1.Rx_Clock") 4 (codes "input") (codes "triggered"))
    (item (clock_row (codes "CAN1.Tx_Clock") 6 (codes "output") (codes "triggered")) others) else others))

abbrev pub binary_rows : Bool → Items
binary_rows two =
    item (binary_row (codes "CAN0.Rx_Data") 1 (codes "input") 0)
    (item (binary_row (codes "CAN0.Tx_Data") 3 (codes "output") 2)
    (if two then item (binary_row (codes "CAN1.Rx_Data") 5 (codes "input") 4)
    (item (binary_row (codes "CAN1.Tx_Data") 7 (codes "output") 6) no_items) else no_items))

abbrev pub terminal_rows : Bool → Items
terminal_rows two =
    item (terminal_row (codes "CAN0") 0) (if two then item (terminal_row (codes "CAN1") 4) no_items else no_items)

-- the document that lacks nothing but an identifier
abbrev pub template : Bool → Bool → Members
template two countdown =
    member (codes "Binary") (array (binary_rows two))
    (member (codes "Clock") (array (clock_rows two (timer_rows countdown)))
    (member (codes "Terminal") (array (terminal_rows two))
    (member (codes "fmiVersion") (string (codes "3.0"))
    (member (codes "instantiationToken") (string (codes "guest"))
    (member (codes "modelName") (string (codes "guest")) no_members)))))
