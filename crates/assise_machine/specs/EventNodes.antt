-- Where an event happens.
use Rattle.std.specs.Prelude.{ℕ, Option, Some, None}
use Rattle.assise_model_world.specs.World.{World}
use Rattle.assise_model_events.specs.Events.{ClusterEvent, open_client, try_call, try_fsync, outgoing, deliver, digest, release_ready, set_hot, crash, fail, back, refill, join, raise}

-- a client's event happens at the client's home, and leases are released at no one node
abbrev pub node_of : World → ClusterEvent → Option ℕ
node_of w (open_client n u) = Some n
node_of w (try_call c op) = Some (w.home c)
node_of w (try_fsync c) = Some (w.home c)
node_of w (outgoing n) = Some n
node_of w (deliver f n) = Some n
node_of w (digest n) = Some n
node_of w release_ready = None
node_of w (set_hot n capacity) = Some n
node_of w (crash c) = Some (w.home c)
node_of w (fail n) = Some n
node_of w (back n) = Some n
node_of w (refill n) = Some n
node_of w (join n) = Some n
node_of w (raise n) = Some n
