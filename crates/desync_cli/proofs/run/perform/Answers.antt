use Rattle.std.proofs.Common.{refl, subst}
use Rattle.command_words.specs.Limits.{Fits}
use Rattle.desync_cli.proofs.Fair.{none_such}
use Rattle.desync_cli.proofs.Grouped.{are_groups}
use Rattle.desync_cli.proofs.run.perform.Goals as goal

pub returns-in-Make : goal.returns-in-Make
returns-in-Make g c = record { unheard = λ _. refl; ends = rw c.in-Make.is (c.make.ensures.ends _) }

pub returns-in-VerifyIndex : goal.returns-in-VerifyIndex
returns-in-VerifyIndex g c = record { unheard = λ _. refl; ends = rw c.in-VerifyIndex.is (c.check_image.ensures.ends _) }

pub returns-in-Extract : goal.returns-in-Extract
returns-in-Extract g c = record { unheard = λ _. refl; ends = rw c.in-Extract.is (c.extract.ensures.ends _) }

pub returns-in-Chop : goal.returns-in-Chop
returns-in-Chop g c = record { unheard = λ _. refl; ends = rw c.in-Chop.is (c.chop_into_store.ensures.ends _) }

pub returns-in-Cache : goal.returns-in-Cache
returns-in-Cache g c = record { unheard = λ _. refl; ends = rw c.in-Cache.is (c.fill_cache.ensures.ends _) }

pub returns-in-ListChunks : goal.returns-in-ListChunks
returns-in-ListChunks g c = record { unheard = λ _. refl; ends = rw c.in-ListChunks.is c.print_chunks.ensures.ends }

pub returns-in-Prune : goal.returns-in-Prune
returns-in-Prune g c = record { unheard = λ _. refl; ends = rw c.in-Prune.is (c.prune_folder.ensures.ends _) }

pub returns-in-Verify : goal.returns-in-Verify
returns-in-Verify g c = record { unheard = λ _. refl; ends = rw c.in-Verify.is (c.verify.ensures.ends _) }

pub returns-in-Demo : goal.returns-in-Demo
returns-in-Demo g c = record { unheard = λ _. refl; ends = rw c.in-Demo.is (c.demo.ensures.ends _ _) }

pub returns-in-ChunkServer : goal.returns-in-ChunkServer
returns-in-ChunkServer g c = record { unheard = λ h. none_such (rw c.in-ChunkServer.is at h); ends = rw c.in-ChunkServer.is (c.chunk_server.ensures.ends _ _) }

pub returns-in-Proxy : goal.returns-in-Proxy
returns-in-Proxy g c = record { unheard = λ h. none_such (rw c.in-Proxy.is at h); ends = rw c.in-Proxy.is (c.proxy_server.ensures.ends _) }

-- the words name groups of stores

pub extract-requires-clause-stores : goal.extract-requires-clause-stores
extract-requires-clause-stores g c = λ lives bounds. let fits = subst Fits c.in-Extract.is c.requires in are_groups _ _ fits.0 fits.1

pub cat-requires-clause-stores : goal.cat-requires-clause-stores
cat-requires-clause-stores g c = let fits = subst Fits c.in-Cat.is c.requires in are_groups _ _ fits.0 fits.1

pub print_info-requires-clause-groups : goal.print_info-requires-clause-groups
print_info-requires-clause-groups g c = let fits = subst Fits c.in-Info.is c.requires in λ some. are_groups _ _ some fits.0

pub fill_cache-requires-clause-groups : goal.fill_cache-requires-clause-groups
fill_cache-requires-clause-groups g c = λ lives bounds. let fits = subst Fits c.in-Cache.is c.requires in are_groups _ _ fits.0 fits.1

pub proxy_server-requires-clause-groups : goal.proxy_server-requires-clause-groups
proxy_server-requires-clause-groups g c = λ lives bounds. let fits = subst Fits c.in-Proxy.is c.requires in are_groups _ _ fits.0 fits.1
