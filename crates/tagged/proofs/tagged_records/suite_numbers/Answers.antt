use Rattle.tagged.proofs.tagged_records.Listing.{numbers_are}
use Rattle.tagged.proofs.tagged_records.suite_numbers.Goals as goal

pub returns : goal.returns
returns c = rw (← numbers_are c.args.list.now) c.listed.ensures
