-- What a look at the wrap finds, as what holder answers.
use Rattle.std.specs.Prelude.{ℕ, ◌+◌, Option, Some, None}
use Rattle.rules.specs.Advance.{Holding, held}
use Rattle.wrap.specs.declared.holder.Held.{Held}

-- the plan start is at the grain base, and `none` is the answer where nobody holds the core
abbrev pub holding_of : ℕ → Holding → Option Held → Holding
holding_of base none (Some h) = held h.slot (base + h.after)
holding_of base none None = none
