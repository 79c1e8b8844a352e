pub mod Raster
pub mod Counted
pub mod Channels
pub mod RasterLaws
