-- What a bus is made from, and what every bus of the code keeps. Public clauses cite this file.
use Rattle.std.specs.Prelude.{◌≡◌, ◌≤◌, ◌+◌, ◌^◌, ℕ, is_some}
use Rattle.bus_specs.specs.Bus.{Setup, Bus}
use Rattle.bus_specs.specs.Sound.{Sound, IsSetup, Rise}
use Rattle.bus_medium.specs.declared.setup.BusSetup.{BusSetup}

abbrev pub setup_of : BusSetup → Setup
setup_of s = record {
  number = s.number;
  rate = s.rate;
  fd_rate = s.fd_rate;
  nominal = s.nominal;
  data_bit_time = s.fast;
  errors = s.errors;
}

-- The members rise, the kinds of scripted errors are 1 to 4, and there is a data bit time exactly where there is a data bit rate.
pub record IsWellFormed (s : BusSetup) : Type 0 where
  pub rise : (last : ℕ) × Rise 0 s.members last
  pub errors : IsSetup (setup_of s)
  pub rates : is_some (setup_of s).data_bit_time ≡ is_some (setup_of s).fd_rate

-- The bus is sound, and its idle moment leaves room for what is added to it.
pub record IsKept (b : Bus) : Type 0 where
  pub sound : Sound b
  pub idle : b.idle ≤ 2 ^ 63 + 2 ^ 42
