use Rattle.std.proofs.Common.{inl}
use Rattle.drill_work.proofs.Whole.{digest_is, keys_are, opened_sector, volume_sector, volume_sectors, volume_start}
use Rattle.drill_work.proofs.summary.drill.Goals as goal

pub geometry_of-geometry-requires : goal.geometry_of-geometry-requires
geometry_of-geometry-requires g c = inl (opened_sector c.args.n c.in_ok-disk.opened.fields c.in_ok-disk.ensures.fields)

pub served-requires-clause-start : goal.served-requires-clause-start
served-requires-clause-start g c κs within =
    volume_start c.args.n c.in_ok-disk.opened.fields c.geometry_of-geometry.result c.in_ok-disk.ensures.fields c.geometry_of-geometry.ensures

pub served-requires-clause-sectors : goal.served-requires-clause-sectors
served-requires-clause-sectors g c κs within =
    volume_sectors c.args.n c.in_ok-disk.opened.fields c.geometry_of-geometry.result c.in_ok-disk.ensures.fields c.geometry_of-geometry.ensures

pub served-requires-clause-sector : goal.served-requires-clause-sector
served-requires-clause-sector g c κs within =
    volume_sector c.args.n c.in_ok-disk.opened.fields c.geometry_of-geometry.result c.in_ok-disk.ensures.fields c.geometry_of-geometry.ensures

pub returns : goal.returns
returns g c = record {
  reads = c.in_ok-first.ensures.reads;
  writes = c.in_ok-first.ensures.writes;
  sectors = c.in_ok-first.ensures.sectors;
  digest = digest_is c.args.n _ _ c.in_ok-disk.disk c.in_ok-disk-2.disk c.new-keyed.ensures.deciphers
      (keys_are c.args.n c.in_ok-disk.opened.algorithm c.in_ok-disk.opened.fields c.in_ok-disk.ensures.algorithm c.in_ok-disk.ensures.fields)
      c.in_ok-disk.ensures.container c.in_ok-disk-2.ensures c.in_ok-digest.digest c.in_ok-digest.ensures;
}
