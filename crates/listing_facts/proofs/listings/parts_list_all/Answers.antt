use Rattle.listing_facts.proofs.PartsEnough.{post_enough, cell_enough, desk_enough}
use Rattle.listing_facts.proofs.listings.parts_list_all.Goals as goal

pub returns-clause-post : goal.returns-clause-post
returns-clause-post g c = post_enough

pub returns-clause-cell : goal.returns-clause-cell
returns-clause-cell g c = cell_enough

pub returns-clause-desk : goal.returns-clause-desk
returns-clause-desk g c = desk_enough
