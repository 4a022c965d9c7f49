-- Which answer a call with lists gives, in terms of the first element that is wrong.
use Rattle.std.specs.Prelude.{◌≡◌, ℕ, ◌<◌, List, length, ℤ, Ok, Err, Result}
use Rattle.std.specs.List.{HoldsAt, AllWithin}
use Rattle.settings.specs.declared.settings.RawPath.{RawPath}
use Rattle.settings.specs.declared.refusal.SettingRefusal.{SettingRefusal}
use Rattle.settings.specs.declared.refusal.SettingRefusal.TheVariants.{PathOutside, EntryOutside}
use Rattle.settings.specs.Lists.{Near, Few, Amplitude, Long}

-- element k is not right, and all before it are
pub record First {X : Type 0} (Right : X → Type 0) (xs : List X) (k : ℕ) : Type 0 where
  pub there : k < length xs
  pub wrong : HoldsAt (λ x. Right x → ⊥) xs k
  pub before : AllWithin Right xs 0 k

-- the answer to a call that sets the paths
pub record PathsAnswer (ps : List RawPath) (r : Result (Unit {0}) SettingRefusal) : Type 0 where
  pub wrong_count : (Few ps → ⊥) → r ≡ Err (PathOutside 10)
  pub long_delay : Few ps → (k : ℕ) → First Near ps k → r ≡ Err (PathOutside k)
  pub all_right : Few ps → AllWithin Near ps 0 (length ps) → r ≡ Ok tt

-- the answer to a call that sets the amplifier's table
pub record TableAnswer (amps : List ℕ) (phases : List ℤ) (r : Result (Unit {0}) SettingRefusal) : Type 0 where
  pub wrong_length : (Long amps phases → ⊥) → r ≡ Err (EntryOutside 513)
  pub high_amplitude : Long amps phases → (k : ℕ) → First Amplitude amps k → r ≡ Err (EntryOutside k)
  pub all_right : Long amps phases → AllWithin Amplitude amps 0 (length amps) → r ≡ Ok tt
