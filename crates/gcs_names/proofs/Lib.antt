pub mod BucketNames
pub mod ObjectNames
