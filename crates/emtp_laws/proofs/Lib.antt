mod Counting
mod Worked
mod WorkedRuns
pub mod SolvedSteps
mod GroupVoltages
mod ClosedSwitches
pub mod ExactSources
pub mod NodeCurrents
mod NamedNodes
mod OpenSwitches
mod Breakers
mod Valves
mod NodalConductances
mod CoupledPhases
mod Resistors
mod ResistorRuns
mod LineWaves
mod RenumberedPhases
mod ReversedPhases
mod LimitedOutputs
mod LimitersOfRuns
mod VariablesOfBlocks
mod LimitsOfRuns
mod TrapezoidalBlocks
mod LoneBlocks
mod SampleCounts
mod MirroredNumbers
mod OddBranches
mod ReversedSeries
pub mod Products
pub mod SeriesSteps
mod SeriesVoltages
mod OddSegments
mod MirroredRecords
mod MirroredBranches
pub mod AlikeRows
pub mod AlikeNetworks
mod AlikeSteps
mod AlikeRuns
mod MirroredRows
mod MirroredSwitches
mod MirroredSystem
mod MirroredPart
mod MirroredCase
mod MirroredSteps
mod MirroredSamples
mod MirroredControl
mod Quiet
mod LongerRuns
mod LongerSamples
mod Causality
mod NamedVariables
mod EndNames
