-- `settings::Kind::number` meets its contract: kind by kind. Assumes nothing.
use mathlib.Core.Path.{◌≡◌, refl}
use Prim.Native.Nat.{◌<◌}
use denote.Enum.Declared.{tag_of}
use native.Mathlib.Omega.{arith}
use Rattle.settings.specs.declared.Kind.{Kind}
use Rattle.settings.specs.declared.Kind.TheVariants.{Men, Women, Lapse, Costs, Claims}
use Rattle.settings.specs.contracts.Kind.{the_type}
use Rattle.settings.specs.Settings.{number_of}
use Rattle.settings.proofs.Kind.number.Goals as goal

pub returns : goal.returns
returns c = by c.args.self
  where
    by : (kind : Kind) → (tag_of the_type kind ≡ number_of kind) × (tag_of the_type kind < 5)
    by Men = (refl, omega arith)
    by Women = (refl, omega arith)
    by Lapse = (refl, omega arith)
    by Costs = (refl, omega arith)
    by Claims = (refl, omega arith)
