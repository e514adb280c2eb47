use Rattle.aligned_ranges.proofs.CoverLaws.{few_of_level, value_of_cover}
use Rattle.aligned_ranges.proofs.laws.covers_are_partitions.Goals as goal

pub returns : goal.returns
returns c = record { value = value_of_cover; few = few_of_level }
