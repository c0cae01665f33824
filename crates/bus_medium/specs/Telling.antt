-- What a node can be told. No public clause cites this file.
use Rattle.std.specs.Prelude.{◌≡◌, ◌≤◌, ℕ, true, List, length, IfSome, option_map, option_to_list}
use Rattle.operation_specs.specs.Operation.{Operation, ArbitrationLost, FormatError, Wakeup, is_valid}
use Rattle.bus_specs.specs.Bus.{Member}
use Rattle.bus_specs.specs.Inbox.{operation_of_mail, due_lost, due_format, due_wake}
use Rattle.log_specs.specs.Line.{Told, ToldLost, ToldFormat, ToldWake}

-- its mail and its format notice have a written form
pub record IsTellable (m : Member) : Type 0 where
  pub mail : IfSome m.mail (λ x. is_valid (operation_of_mail x) ≡ true)
  pub format : IfSome m.format (λ n. length n.bytes ≤ 64)

-- what stands in an inbox, by its parts
abbrev pub mail_item : Member → List Operation
mail_item m = option_to_list (option_map operation_of_mail m.mail)

abbrev pub lost_item : ℕ → Member → List Operation
lost_item now m = option_to_list (option_map (λ n. ArbitrationLost n.id) (due_lost now m))

abbrev pub format_item : ℕ → Member → List Operation
format_item now m = option_to_list (option_map (λ n. FormatError n.bytes) (due_format now m))

abbrev pub wake_item : ℕ → Member → List Operation
wake_item now m = option_to_list (option_map (λ n. Wakeup) (due_wake now m))

abbrev pub lost_told : ℕ → Member → List Told
lost_told now m = option_to_list (option_map (λ n. ToldLost n.id) (due_lost now m))

abbrev pub format_told : ℕ → Member → List Told
format_told now m = option_to_list (option_map (λ n. ToldFormat n.bytes) (due_format now m))

abbrev pub wake_told : ℕ → Member → List Told
wake_told now m = option_to_list (option_map (λ n. ToldWake) (due_wake now m))
