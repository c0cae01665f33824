-- What a reader answers, beside what its definition says.
use Rattle.std.specs.Prelude.{◌≡◌, Result, Ok, Err}
use Rattle.network_specs.specs.Settings.{Refusal, refusal}
use Rattle.network_file.specs.declared.error.NetworkFileError.{NetworkFileError}
use Rattle.network_file.specs.declared.error.NetworkFileError.TheVariants as errors

-- it is refused so, unless memory ran out
abbrev pub Refuses : {Y : Type 0} → NetworkFileError → Result Y Refusal → Type 0
Refuses errors.Memory read = Unit {0}
Refuses (errors.Field f place) read = read ≡ Err (refusal f place)

-- the value or the refusal of the definition, unless memory ran out
abbrev pub Gives : {X Y : Type 0} → (X → Y) → Result X NetworkFileError → Result Y Refusal → Type 0
Gives view (Ok x) read = read ≡ Ok (view x)
Gives view (Err e) read = Refuses e read
