use Rattle.ce_thurston.proofs.OrbitRows.{if_rows, rows_images, rows_walks, rows_total}
use Rattle.ce_thurston.proofs.rows.rows_of.Goals as goal

pub returns-clause-images : goal.returns-clause-images
returns-clause-images c =
    let o = c.args.orbit.now in
    if_rows _ _ c.rows_of_orbit_key.result c.rows_of_orbit_key.ensures.rows
    (rows_images o c.rows_of_orbit_key.ensures.orbit)

pub returns-clause-walks_from_pairs : goal.returns-clause-walks_from_pairs
returns-clause-walks_from_pairs c =
    let o = c.args.orbit.now in
    if_rows _ _ c.rows_of_orbit_key.result c.rows_of_orbit_key.ensures.rows
    (rows_walks o c.rows_of_orbit_key.ensures.orbit)

pub returns-clause-walks : goal.returns-clause-walks
returns-clause-walks c =
    let o = c.args.orbit.now in
    if_rows _ _ c.rows_of_orbit_key.result c.rows_of_orbit_key.ensures.rows
    (rows_total o c.rows_of_orbit_key.ensures.orbit)
