use Rattle.std.proofs.Common.{◌≡◌, ℕ, [], ◌∷◌, sym}
use Rattle.command_steps.proofs.Consulted.{reads_twice}
use Rattle.command_steps.proofs.Used.{file_used, uses_twice}
use Rattle.image_views.proofs.Viewed.{opened_read}
use Rattle.image_views.proofs.views.open_for.Goals as goal
