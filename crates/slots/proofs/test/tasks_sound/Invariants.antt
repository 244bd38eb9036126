-- `tasks_sound` goes through the slots with what is left of the word of the slots in use, whose lowest bit is the slot's.
-- The laws of Slots.antt say what one slot does to that, and what is known after the last.
use Rattle.rules.specs.Held.{tasks_of}
use Rattle.slots.proofs.Slots.{Going}
use Rattle.slots.proofs.test.tasks_sound.Given as goal

abbrev pub invariant-loop-slot : goal.invariant-loop-slot
invariant-loop-slot l = Going l.state.used l.state.clock l.state.start (tasks_of l.lists) l.initial.dues.due l.initial.dues.rates l.dues.due l.dues.rates l.left l.slot
