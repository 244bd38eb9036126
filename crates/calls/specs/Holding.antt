-- What holder answers, on any table.
use Rattle.std.specs.Prelude.{cond, List, ℕ, length}
use Rattle.rules.specs.Advance.{idle, holder_of}
use Rattle.rules.specs.Calls.{holder_number}
use Rattle.rules.specs.Held.{Planner, table_of, is_sound_in}
use Rattle.wrap.specs.Holding.{Told, told_if}

-- Holder: for a sound table the rules' answer; for any other, refusal 1.
unfoldable pub told : Planner → List ℕ → ℕ → Told
told p words core =
    cond (is_sound_in p words) (told_if (holder_number (length words) (table_of p words) core) (holder_of (table_of p words) core)) (record { number = 1; holding = idle })
