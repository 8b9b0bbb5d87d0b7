pub mod United
