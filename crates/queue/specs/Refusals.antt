-- The refusal of the queue: its number and its value.
use Rattle.refusal.specs.declared.Layer.TheVariants.{Queue}
use Rattle.refusal.specs.declared.Refusal.{Refusal}
use Rattle.refusal.specs.Refusals.{refusal_with}
use Rattle.queue.specs.declared.fault.QueueFault.{QueueFault}
use Rattle.queue.specs.declared.fault.QueueFault.TheVariants.{Full}

abbrev pub queue_refusal : QueueFault → Refusal
queue_refusal (Full needed) = refusal_with Queue 10 needed
