use Rattle.image_slices.proofs.view_reader.ViewReaderReaderAhead.begin.Goals as goal

pub returns : goal.returns
returns g c = record { right = c.clear.ensures.right c.args.self.now.index.now (g.V.View.held c.args.self.now.view).bytes }
