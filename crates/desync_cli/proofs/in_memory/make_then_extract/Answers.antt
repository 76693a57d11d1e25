use Rattle.std.proofs.Common.{false, map, string_bytes, true}
use Rattle.desync_cli.proofs.Fair.{done_fits}
use Rattle.desync_cli.proofs.RoundTrip.{round_trip}
use Rattle.desync_cli.proofs.in_memory.make_then_extract.Goals as goal
use Rattle.desync_cli.specs.Commands.{command_of, sure_types}
use Rattle.server_commands.specs.Serving.{heard}
use Rattle.command_worlds.specs.Worlds.{world}
use Rattle.dsy_forms.specs.MemFiles.{disk_of, file_counts_of, files_of, folder_counts_of, folders_of}
use Rattle.dsy_forms.specs.MemSinks.{output_of}
use Rattle.proxy_command.specs.ProxyServing.{look_types}

pub returns : goal.returns
returns g c =
    let dialed = g.D.Dial.state in
    let heard_by = g.L.Listen.state in
    let before = c.args.memory.now in
    let between = c.desync_in_memory-made.new.memory in
    let after = c.desync_in_memory-extracted.new.memory in
    record {
      ends = (
        heard_by between.listen,
        world (disk_of between.files) (dialed between.dial) (output_of between.out),
        c.desync_in_memory-made.ensures.ends,
        c.desync_in_memory-extracted.ensures.ends,
      );
      done = λ made extracted. round_trip c.one_index.ensures.only c.cutting.ensures.value
          (heard false (heard_by before.listen) (heard_by between.listen)) (heard false (heard_by between.listen) (heard_by after.listen))
          (command_of (map string_bytes c.args.make.now)) (command_of (map string_bytes c.args.extract.now))
          (files_of before.files) (files_of between.files) (files_of after.files) (folders_of before.files) (folders_of between.files) (folders_of after.files)
          (file_counts_of before.files) (folder_counts_of before.files) (file_counts_of between.files) (folder_counts_of between.files) (file_counts_of after.files) (folder_counts_of after.files)
          (dialed before.dial) (dialed between.dial) (dialed after.dial)
          (output_of before.out) (output_of between.out) (output_of after.out)
          (done_fits (sure_types false (look_types false true)) (heard false (heard_by before.listen) (heard_by between.listen)) (map string_bytes c.args.make.now) _ _ _ c.desync_in_memory-made.ensures.ends made)
          (c.desync_in_memory-made.ensures.done made) (c.desync_in_memory-extracted.ensures.done extracted);
    }
